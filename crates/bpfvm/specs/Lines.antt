-- The fields of a listing's line, and where the reading of its lines stops, only for its private clauses.
use Rattle.std.specs.Prelude.{◌≡◌, ℕ, ◌<◌, List, slice_get, Some}
use Rattle.bpfvm.specs.declared.insn.Insn.{Insn}
use Rattle.bpfvm.specs.Listing.{IsNumber, IsLine}

-- texts that write an instruction's fields, each within its range
pub record AreFields (code jt jf k : List ℕ) (insn : Insn) : Type 0 where
  pub code_is : IsNumber 65535 code insn.code
  pub jt_is : IsNumber 255 jt insn.jt
  pub jf_is : IsNumber 255 jf insn.jf
  pub k_is : IsNumber 4294967295 k insn.k

-- These lines begin with this many lines that are instructions, and then comes one that is none.
pub record StopsAfter (lines : List (List ℕ)) (good : ℕ) : Type 0 where
  pub line : List ℕ
  pub here : slice_get lines good ≡ Some line
  pub bad : (insn : Insn) → IsLine line insn → ⊥
  pub before : (k : ℕ) (earlier : List ℕ) → k < good → slice_get lines k ≡ Some earlier → (insn : Insn) × IsLine earlier insn
