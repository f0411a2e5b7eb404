-- How the reading of a capture ends.
use Rattle.std.specs.Prelude.{◌≡◌, ℕ, ◌-◌, ◌^◌, ◌<◌, ◌⊎◌, List, length, Option, Some, None, Result, IsOk, IsErrOf}
use Rattle.std.specs.Io.KnownBytes.{Consumes}
use Rattle.savefile.specs.declared.fault.Fault.{Fault}
use Rattle.savefile.specs.declared.fault.Fault.TheVariants.{CountFull, Device, NoMemory}
use Rattle.savefile.specs.declared.header.Header.{Header}
use Rattle.savefile.specs.declared.packet.Packet.{Packet}
use Rattle.savefile.specs.Reader.{WasBegun, WasRead, WasRefused, WasTaken}

-- how the reading of a capture with this fault or none ends
abbrev pub IsEnd : {A : Type 0} → Option Fault → Result A Fault → Type 0
IsEnd None read = IsOk read
IsEnd (Some fault) read = IsErrOf read fault

-- Up to which packets a capture was read, and how that ended. It was read to its end, or to its first torn or bad record; or the
-- source broke, and what it had given stops after these packets; or no more can be counted.
abbrev pub ReadsTo : {A : Type 0} → Option (List ℕ) → Option (List ℕ) → Header → List Packet → Result A Fault → Type 0
ReadsTo from left header packets read =
    ((fault : Option Fault) × WasRead from header packets fault × IsEnd fault read)
    ⊎ (WasBegun from header packets
    × ((IsErrOf read Device × WasTaken from left header packets)
    ⊎ (IsErrOf read CountFull × (length packets ≡ 2 ^ 64 - 1))))

-- Why no header was read, of a source that is now `back`: it is refused; or the source broke before it had given the 24 bytes of one;
-- or memory was refused, and the source is as it was.
abbrev pub IsUnopened : {R : Type 0} → (R → Option (List ℕ)) → R → R → Fault → Type 0
IsUnopened left from back fault =
    WasRefused (left from) fault
    ⊎ ((fault ≡ Device) × (given : List ℕ) × Consumes (left from) (left back) given × (length given < 24))
    ⊎ ((fault ≡ NoMemory) × (back ≡ from))
