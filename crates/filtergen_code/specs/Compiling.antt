-- What a compiled program is to do, and when an expression may be refused.
use Rattle.std.specs.Prelude.{◌≡◌, ℕ, ◌<◌, ◌≤◌, List, ◌⊎◌, if◌then◌else◌}
use Rattle.bpfvm.specs.declared.insn.Insn.{Insn}
use Rattle.bpfvm.specs.Machine.{verdict}
use Rattle.filter_tree.specs.Trees.{Tree}
pub use Rattle.filtergen_facts.specs.Weights.{value_weight, weight, value_need, need}
use Rattle.filter_meaning.specs.Meaning.{Packet, HasBytes, accepts}
use Rattle.filtergen_facts.specs.declared.refusal.Refusal.{Refusal}
use Rattle.filtergen_facts.specs.declared.refusal.Refusal.TheVariants.{TooLong, TooDeep, BadSnap, NoMemory}
use Rattle.savefile.specs.declared.record.TheConstants.{MAX_SNAP}

-- on every packet the program answers snap exactly where the tree accepts it, and else 0
abbrev pub StandsFor : List Insn → Tree → ℕ → Type 0
StandsFor program t snap =
    (p : Packet) → HasBytes p → verdict program p.captured p.wire ≡ (if accepts t p then snap else 0)

-- a snapshot length is from 1 to MAX_SNAP
abbrev pub IsBadSnap : ℕ → Type 0
IsBadSnap snap = (snap ≡ 0) ⊎ (MAX_SNAP < snap)

-- and else it is right
abbrev pub IsRightSnap : ℕ → Type 0
IsRightSnap snap = (0 < snap) × (snap ≤ MAX_SNAP)

-- Why a tree is refused, by the first of these that applies: a snapshot length out of range, more than the 16 cells of the scratch
-- memory, and too great a weight.
abbrev pub IsRefused : Tree → ℕ → Refusal → Type 0
IsRefused t snap BadSnap = IsBadSnap snap
IsRefused t snap TooDeep = IsRightSnap snap × (16 < need t)
IsRefused t snap TooLong = IsRightSnap snap × (need t ≤ 16) × (500 < weight t)
IsRefused t snap NoMemory = ⊥

-- a tree that is refused for none of these
abbrev pub Fits : Tree → ℕ → Type 0
Fits t snap = IsRightSnap snap × (need t ≤ 16) × (weight t ≤ 500)
