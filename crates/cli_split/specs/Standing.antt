-- The state of a part after some packets.
use Rattle.std.specs.Prelude.{◌≡◌, ◌≢◌, ◌↔◌, ℕ, Bool, false, ◌<◌, ◌≤◌, ◌^◌, List, [], ◌∷◌, ◌++◌, length, Option, OnOk, Err}
use Rattle.std.specs.List.{AllZip}
use Rattle.savefile.specs.declared.fault.Fault.TheVariants.{Device}
use Rattle.savefile.specs.declared.header.Order.{Order}
use Rattle.savefile.specs.declared.header.Unit.{Unit as TimeUnit}
use Rattle.savefile.specs.declared.packet.Packet.{Packet}
use Rattle.pcap_cut.specs.Copying.{Wrote}
use Rattle.pcap_cut.specs.Cut.{accepted}
use Rattle.pcap_cut.specs.Outcome.{IsTally}
use Rattle.savefile.specs.Snapshot.{effective_snaplen}
use Rattle.cli_split.specs.declared.part.Outlet.{Outlet}
use Rattle.cli_split.specs.declared.part.Part.{Part}
use Rattle.cli_split.specs.declared.part.PartEnd.{PartEnd}
use Rattle.cli_split.specs.declared.split.Splitter.{Splitter}
use Rattle.cli_split.specs.Writing.{IsWritten}

-- Its writer wrote what it accepts of them, or failed at that, and it counted them.
pub record HasTaken {W : Type 0} (taken : W → Option (List ℕ)) (name : W → List ℕ) (failures : W → ℕ) (order : Order) (unit : TimeUnit) (packets : List Packet) (part : Part W) (outlet : Outlet W) : Type 0 where
  pub program : outlet.program ≡ part.program
  pub snap : outlet.snap ≡ effective_snaplen part.snap
  pub wrote : Wrote taken (taken part.sink) order unit (effective_snaplen part.snap) (accepted part.program (effective_snaplen part.snap) packets) outlet.written outlet.writer
  pub counted : OnOk outlet.written (IsTally part.program packets outlet.tally)
  pub read : outlet.tally.read ≤ length packets
  pub written : outlet.tally.written ≤ outlet.tally.read
  pub broke : (outlet.written ≡ Err Device) ↔ (failures outlet.writer.sink ≢ failures part.sink)
  pub named : name outlet.writer.sink ≡ name part.sink

-- the same, and its sink was asked to hand on all that it took
abbrev pub HasHandedOn : {W : Type 0} → (W → Option (List ℕ)) → (W → List ℕ) → (W → ℕ) → (W → Bool) → Order → TimeUnit → List Packet → Part W → Outlet W → Type 0
HasHandedOn taken name failures waits order unit packets part outlet =
    HasTaken taken name failures order unit packets part outlet × (waits outlet.writer.sink ≡ false)

-- It was given one packet more.
abbrev pub IsGiven : {W : Type 0} → (W → Option (List ℕ)) → (W → List ℕ) → (W → ℕ) → Packet → Outlet W → Outlet W → Type 0
IsGiven {W} taken name failures p old new =
    (order : Order) (unit : TimeUnit) (packets : List Packet) (part : Part W)
    → HasTaken taken name failures order unit packets part old → HasTaken taken name failures order unit (packets ++ p ∷ []) part new

-- This many packets were read, and each part is in its state after them.
abbrev pub HasSplit : {W : Type 0} → (W → Option (List ℕ)) → (W → List ℕ) → (W → ℕ) → Order → TimeUnit → List Packet → List (Part W) → Splitter W → Type 0
HasSplit taken name failures order unit packets parts splitter =
    (splitter.read ≡ length packets) × (splitter.read < 2 ^ 64) × AllZip (HasTaken taken name failures order unit packets) parts splitter.outlets.items

-- the same, of some packets and parts
abbrev pub HasParts : {W : Type 0} → (W → Option (List ℕ)) → (W → List ℕ) → (W → ℕ) → Splitter W → Type 0
HasParts {W} taken name failures splitter =
    (order : Order) × (unit : TimeUnit) × (packets : List Packet) × (parts : List (Part W)) × HasSplit taken name failures order unit packets parts splitter

-- these packets more were given to all
abbrev pub GoesOn : {W : Type 0} → (W → Option (List ℕ)) → (W → List ℕ) → (W → ℕ) → List Packet → Splitter W → Splitter W → Type 0
GoesOn {W} taken name failures packets old new =
    (order : Order) (unit : TimeUnit) (before : List Packet) (parts : List (Part W))
    → HasSplit taken name failures order unit before parts old → HasSplit taken name failures order unit (before ++ packets) parts new

-- A part that stood so was ended so.
abbrev pub IsEndOf : {W : Type 0} → (W → Option (List ℕ)) → (W → List ℕ) → (W → ℕ) → Outlet W → PartEnd W → Type 0
IsEndOf {W} taken name failures outlet end =
    (order : Order) (unit : TimeUnit) (packets : List Packet) (part : Part W)
    → HasTaken taken name failures order unit packets part outlet → IsWritten taken name failures order unit packets part end
