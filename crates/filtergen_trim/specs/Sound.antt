-- What code is that may have more instructions than a program.
use Rattle.std.specs.Prelude.{ℕ, ◌<◌, List, length}
use Rattle.bpfvm.specs.declared.insn.Insn.{Insn}
use Rattle.bpfvm.specs.Validity.{SoundBefore, EndsInReturn}

-- some instructions, nothing wrong with any of them, and the last one a return
pub record IsSoundCode (code : List Insn) : Type 0 where
  pub some : 0 < length code
  pub sound : SoundBefore code (length code)
  pub returns : EndsInReturn code
