-- Which bytes of a capture are cut again.
use Rattle.std.specs.Prelude.{◌≡◌, ℕ, ◌<◌, ◌≤◌, List, [], ◌∷◌, All}
use Rattle.std.specs.List.{Contains}
use Rattle.pcap_parts.specs.declared.again.Stretch.{Stretch}
use Rattle.pcap_parts.specs.declared.part.PartCut.{PartCut}
use Rattle.pcap_parts.specs.Joining.{IsTorn}

-- a part of a capture of `size` bytes ends inside a record, and the capture goes on
abbrev pub IsCutOff : ℕ → PartCut → Type 0
IsCutOff size p = IsTorn p.fault × (p.end < size)

-- a stretch begins where one of these parts does that is cut off, and is longer
abbrev pub Replaces : List PartCut → ℕ → Stretch → Type 0
Replaces parts size s = (p : PartCut) × Contains parts p × IsCutOff size p × (s.first ≡ p.first) × (p.end < s.end)

-- from a byte on each stretch begins where the one before ends, or later; all of them end up to a further byte
abbrev pub Follow : ℕ → List Stretch → ℕ → Type 0
Follow at [] to = at ≤ to
Follow at (s ∷ ss) to = (at ≤ s.first) × Follow s.end ss to

-- The stretches to cut again, which end up to a byte, and none after the capture: a longer one in place of the one that is cut off; then, apart from
-- it and from each other, some in place of further parts that are cut off.
pub record AreAgainUpTo (parts : List PartCut) (cut_off : Stretch) (size : ℕ) (again : List Stretch) (last : ℕ) : Type 0 where
  pub head : Stretch
  pub others : List Stretch
  pub are : again ≡ head ∷ others
  pub first : head.first ≡ cut_off.first
  pub longer : cut_off.end < size → cut_off.end < head.end
  pub replace : All (Replaces parts size) others
  pub inside : All (λ s. s.end ≤ size) again
  pub follow : Follow cut_off.first again last

abbrev pub AreAgain : List PartCut → Stretch → ℕ → List Stretch → Type 0
AreAgain parts cut_off size again = (last : ℕ) × AreAgainUpTo parts cut_off size again last
