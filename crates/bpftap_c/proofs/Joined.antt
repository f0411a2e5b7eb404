-- Packets that lie in a memory one after the other.
use Rattle.std.proofs.Common.{◌≡◌, ℕ, List, [], ◌∷◌, length, drop, refl, arith}
use Rattle.bpfvm.specs.declared.insn.Insn.{Insn}
use Rattle.bpftap_c.specs.Batches.{answers_joined}

-- there is an answer to each
pub length_joined : (program : List Insn) (memory sizes : List ℕ) → length (answers_joined program memory sizes) ≡ length sizes
length_joined program memory [] = refl
length_joined program memory (size ∷ sizes) = grind (arith, length_joined program (drop size memory) sizes)
