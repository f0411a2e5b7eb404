-- The outcome of a survey of a capture.
use Rattle.std.specs.Prelude.{◌≡◌, ℕ, ◌<◌, ◌⊎◌, List, [], length, Option, Some, None, Result, Ok, Err}
use Rattle.std.specs.Io.KnownBytes.{Consumes}
use Rattle.savefile.specs.declared.fault.Fault.{Fault}
use Rattle.savefile.specs.declared.fault.Fault.TheVariants.{Device, NoMemory}
use Rattle.savefile.specs.declared.header.Header.{Header}
use Rattle.savefile.specs.declared.packet.Packet.{Packet}
use Rattle.savefile.specs.Reader.{IsCause, WasBegun, WasRead, WasRefused}
use Rattle.pcap_info.specs.declared.survey.CaptureSurvey.{CaptureSurvey}
use Rattle.pcap_info.specs.Contents.{IsContents}

-- The packets of a capture up to its end; or up to a fault, and why there is no further one.
abbrev pub ReadsTo : {A : Type 0} → Option (List ℕ) → Option (List ℕ) → Header → List Packet → Result A Fault → Type 0
ReadsTo from left header packets (Ok done) = WasRead from header packets None
ReadsTo from left header packets (Err fault) = WasBegun from header packets × IsCause from left header packets fault

-- Why no header was read, of a source that is now `back`: it is refused; or the source failed before it had given 24 bytes; or there is
-- no memory, and the source is as it was.
abbrev pub IsUnopened : {R : Type 0} → (R → Option (List ℕ)) → R → R → Fault → Type 0
IsUnopened left from back fault =
    WasRefused (left from) fault
    ⊎ ((fault ≡ Device) × (given : List ℕ) × Consumes (left from) (left back) given × (length given < 24))
    ⊎ ((fault ≡ NoMemory) × (back ≡ from))

-- A capture was surveyed: it has no header, and so no packets; or it has this one, and the packets up to its end, or to a fault, are
-- those that were counted.
abbrev pub Surveys : {R : Type 0} → (R → Option (List ℕ)) → R → CaptureSurvey R → Type 0
Surveys left from s =
    ((fault : Fault) × (s.header ≡ None) × (s.read ≡ Err fault) × IsUnopened left from s.source fault × IsContents [] s.contents)
    ⊎ ((header : Header) × (packets : List Packet) × (s.header ≡ Some header) × ReadsTo (left from) (left s.source) header packets s.read
    × IsContents packets s.contents)
