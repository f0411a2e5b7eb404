-- How a reader goes on, while others may have work to do before its source is asked.
use Rattle.std.specs.Prelude.{◌≡◌, ◌≢◌, ◌↔◌, ℕ, Bool, true, false, ◌-◌, ◌^◌, List, [], ◌∷◌, ◌++◌, Option, None, Result, Ok, Err, IfErr}
use Rattle.std.specs.Io.KnownBytes.{Consumes}
use Rattle.savefile.specs.declared.fault.Fault.{Fault}
use Rattle.savefile.specs.declared.fault.Fault.TheVariants.{Device, Failed, CountFull}
use Rattle.savefile.specs.declared.header.Header.{Header}
use Rattle.savefile.specs.declared.packet.Packet.{Packet}
use Rattle.savefile.specs.declared.reader.Reader.{Reader}
use Rattle.savefile.specs.Reader.{GoesOn, HasEnded, HasFailed, HasGiven, HasRecord, IsCause, Leaves, WasBegun, WasRead}
use Rattle.savefile.specs.Savefile.{IsRecord, IsWritable}

-- A reader went on to the next packet: all that the contract of `Reader::advance` says.
pub record Advances {R : Type 0} (left : R → Option (List ℕ)) (failures : R → ℕ) (old new : Reader R) (result : Result Bool Fault) : Type 0 where
  pub packet : (start : Option (List ℕ)) (header : Header) (packets : List Packet) → HasGiven left start header packets old
      → result ≡ Ok true → HasGiven left start header (packets ++ new.lent ∷ []) new
  pub end : (start : Option (List ℕ)) (header : Header) (packets : List Packet) → HasGiven left start header packets old
      → result ≡ Ok false → WasRead start header packets None
  pub cause : (start : Option (List ℕ)) (header : Header) (packets : List Packet) → HasGiven left start header packets old
      → IfErr result (IsCause start (left new.source) header packets)
  pub so_far : (start : Option (List ℕ)) (header : Header) (packets : List Packet) → HasGiven left start header packets old
      → WasBegun start header packets
  pub writable : result ≡ Ok true → IsWritable new.lent
  pub device : (result ≡ Err Device) ↔ (failures new.source ≢ failures old.source)
  pub failed : (result ≡ Err Failed) ↔ HasFailed old
  pub count_full : (result ≡ Err CountFull) ↔ (GoesOn old × (old.given ≡ 2 ^ 64 - 1))
  pub ended : HasEnded old → (result ≡ Ok false) × (new ≡ old)
  pub leaves : Leaves old new result
  pub header : new.header ≡ old.header
  pub taken : (bytes : List ℕ) × Consumes (left old.source) (left new.source) bytes
  pub idle : (p : Packet) (after : List ℕ) → IsRecord old.header.order old.header.unit old.ahead p after → new.source ≡ old.source

-- the next record is whole in what a reader has taken already
abbrev pub IsAhead : {R : Type 0} → Reader R → Type 0
IsAhead reader = GoesOn reader × (reader.given ≢ 2 ^ 64 - 1) × HasRecord reader.header reader.ahead
