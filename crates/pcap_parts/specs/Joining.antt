-- Parts that follow each other, and what they have together.
use Rattle.std.specs.Prelude.{◌≡◌, ◌≢◌, ℕ, ◌+◌, ◌<◌, ◌≤◌, ◌^◌, List, [], ◌∷◌, Option, Some, None, option_map, ◌⊎◌}
use Rattle.savefile.specs.declared.fault.Fault.{Fault}
use Rattle.savefile.specs.declared.fault.Fault.TheVariants.{TornRecord, BadFraction, TooLong}
use Rattle.pcap_parts.specs.declared.join.Joined.{Joined}
use Rattle.pcap_parts.specs.declared.join.Misfit.{Misfit}
use Rattle.pcap_parts.specs.declared.join.Misfit.TheVariants.{Missing, OtherSize, CutOff, CountFull}
use Rattle.pcap_parts.specs.declared.part.PartCut.{PartCut}

-- the fault of the record at this place
abbrev pub at_record : ℕ → Fault → Fault
at_record n (TornRecord place) = TornRecord n
at_record n (BadFraction place) = BadFraction n
at_record n (TooLong place) = TooLong n
at_record n fault = fault

-- no part yet: the first one begins after the header
abbrev pub begun : ℕ → Joined
begun size = record { next = 24; size = size; read = 0; fault = None }

-- with one part more
abbrev pub joined : Joined → PartCut → Joined
joined j p = record { next = p.end; size = j.size; read = j.read + p.tally.read; fault = option_map (at_record (j.read + p.tally.read)) p.fault }

-- the fault is that of a record that lacks bytes
abbrev pub IsTorn : Option Fault → Type 0
IsTorn (Some (TornRecord place)) = Unit {0}
IsTorn other = ⊥

-- the fault is that of a record whose header is bad, whatever follows
abbrev pub IsBad : Option Fault → Type 0
IsBad (Some (BadFraction place)) = Unit {0}
IsBad (Some (TooLong place)) = Unit {0}
IsBad other = ⊥

-- A part follows: no fault ended the ones before, it begins where they end, it is one of the same capture, and if it ends inside a record so
-- does the capture.
pub record Fits (j : Joined) (p : PartCut) : Type 0 where
  pub clean : j.fault ≡ None
  pub first : p.first ≡ j.next
  pub size : p.size ≡ j.size
  pub whole : IsTorn p.fault → p.end ≡ p.size

-- These parts follow, one after the other.
abbrev pub Joins : Joined → List PartCut → Joined → Type 0
Joins j [] k = k ≡ j
Joins j (p ∷ ps) k = Fits j p × Joins (joined j p) ps k

-- Parts are the whole capture: they end where it does, or at a bad record.
abbrev pub IsWhole : Joined → Type 0
IsWhole j = IsBad j.fault ⊎ (j.next ≡ j.size)

-- why a part does not follow that is not passed over: no fault ended those before, and it does not begin inside them
abbrev pub IsMisfit : Joined → PartCut → Misfit → Type 0
IsMisfit j p (Missing at) = (j.fault ≡ None) × (at ≡ j.next) × (j.next < p.first)
IsMisfit j p (OtherSize first) = (j.fault ≡ None) × (first ≡ p.first) × (p.first ≡ j.next) × (p.size ≢ j.size)
IsMisfit j p (CutOff first end) = (j.fault ≡ None) × (first ≡ p.first) × (end ≡ p.end) × (p.first ≡ j.next) × IsTorn p.fault × (p.end ≢ p.size)
IsMisfit j p CountFull = (j.fault ≡ None) × (p.first ≡ j.next) × (2 ^ 64 ≤ j.read + p.tally.read)
