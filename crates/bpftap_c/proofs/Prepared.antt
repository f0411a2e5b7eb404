-- The program in the caller's memory, and the fault that is returned beside it.
use Rattle.std.proofs.Common.{ℕ, List, inl, inr}
use Rattle.bpfvm.specs.declared.insn.Insn.{Insn}
use Rattle.bpftap_c.specs.Programs.{HasFault, IsPrepared, Prepares}

-- instructions are a program or none, whichever half is asked
pub prepares : (insns program : List Insn) (fault : ℕ) → IsPrepared insns program → HasFault insns fault → Prepares insns program fault
prepares insns program fault (inl (sound, is)) (inl (sound', none)) = inl (sound.0, is, none)
prepares insns program fault (inr (wrong, refused, is)) (inr (wrong', refused', code)) = inr (wrong', refused', is, code)
prepares insns program fault (inl (sound, is)) (inr (wrong, refused, code)) = absurd (sound.1 wrong refused)
prepares insns program fault (inr (wrong, refused, is)) (inl (sound, none)) = absurd (sound.1 wrong refused)
