-- What was written of a part.
use Rattle.std.specs.Prelude.{◌≡◌, ◌≢◌, ◌↔◌, ℕ, ◌^◌, ◌≤◌, ◌⊎◌, List, length, Option, OnOk, Result, Ok, Err}
use Rattle.savefile.specs.declared.fault.Fault.{Fault}
use Rattle.savefile.specs.declared.fault.Fault.TheVariants.{Device, CountFull}
use Rattle.savefile.specs.declared.header.Order.{Order}
use Rattle.savefile.specs.declared.header.Unit.{Unit as TimeUnit}
use Rattle.savefile.specs.declared.packet.Packet.{Packet}
use Rattle.savefile.specs.Writer.{IsBeginning}
use Rattle.pcap_cut.specs.Cut.{cut_text}
use Rattle.pcap_cut.specs.Outcome.{IsTally, Took}
use Rattle.cli_split.specs.declared.part.Part.{Part}
use Rattle.cli_split.specs.declared.part.PartEnd.{PartEnd}

-- A text was sent: all of it; or a beginning, where the sink broke or the text has more bytes than can be counted.
abbrev pub IsSent : List ℕ → List ℕ → Result (Unit {0}) Fault → Type 0
IsSent sent text (Ok done) = sent ≡ text
IsSent sent text (Err fault) = IsBeginning sent text × ((fault ≡ Device) ⊎ ((fault ≡ CountFull) × (2 ^ 64 ≤ length text)))

-- The sink of a part took what a cut writes of these packets, or a beginning of it; where it took all, the packets were counted.
pub record IsWritten {W : Type 0} (taken : W → Option (List ℕ)) (name : W → List ℕ) (failures : W → ℕ) (order : Order) (unit : TimeUnit) (packets : List Packet) (part : Part W) (end : PartEnd W) : Type 0 where
  pub sent : List ℕ
  pub took : Took taken part.sink end.sink end.sent sent
  pub text : IsSent sent (cut_text part.program part.snap order unit packets) end.written
  pub counted : OnOk end.written (IsTally part.program packets end.tally)
  pub broke : (end.written ≡ Err Device) ↔ (failures end.sink ≢ failures part.sink)
  pub named : name end.sink ≡ name part.sink

-- The sink of a part is as it was.
pub record IsLeft {W : Type 0} (part : Part W) (end : PartEnd W) : Type 0 where
  pub sink : end.sink ≡ part.sink
  pub nothing : end.sent ≡ 0
  pub none_read : end.tally.read ≡ 0
  pub none_written : end.tally.written ≡ 0
  pub works : end.written ≡ Ok tt
