-- What a filter whose answers are counted answers to a packet.
use Rattle.std.specs.Prelude.{◌≡◌, ℕ, Bool, true, false, List, nat_lt}
use Rattle.savefile.specs.declared.packet.Packet.{Packet}
use Rattle.bpfvm.specs.declared.insn.Insn.{Insn}
use Rattle.bpfvm.specs.Machine.{verdict}
use Rattle.filterlang.specs.Trees.{tree_of}
use Rattle.filter_meaning.specs.declared.verdict.Verdict.{Verdict}
use Rattle.filter_meaning.specs.declared.verdict.Verdict.TheVariants.{Yes, No, Abort}
use Rattle.filter_meaning.specs.Meaning.{HasBytes, meaning}
use Rattle.cli_answers.specs.declared.filter.AskedFilter.{AskedFilter}
use Rattle.cli_answers.specs.declared.filter.AskedFilter.TheVariants.{Expression, Program}
use Rattle.cli_answers.specs.Answers.{IsEndOfRun, ended_as, frame_of}
use Rattle.cli_answers.specs.Seeking.{accepts}
use Rattle.cli_count.specs.declared.filter.CountedFilter.{CountedFilter}
use Rattle.cli_count.specs.declared.filter.CountedFilter.TheVariants.{Programs, Asked}

-- a filter answers a packet so: an expression by its meaning, a program by the end of its run
abbrev pub IsVerdict : AskedFilter → Packet → Verdict → Type 0
IsVerdict (Expression expr) p v = v ≡ meaning (tree_of expr) (frame_of p)
IsVerdict (Program program) p v = (number place : ℕ) × (insn : Insn) × IsEndOfRun program.value p number place insn × (v ≡ ended_as insn number)

-- a program accepts a packet if it returns a number other than 0
abbrev pub program_accepts : List Insn → Packet → Bool
program_accepts program p = nat_lt 0 (verdict program p.bytes p.len)

-- Of two programs, the one accepts what is answered Yes, and the other what is answered No.
abbrev pub IsVerdictByTwo : (accepting rejecting : List Insn) → Packet → Verdict → Type 0
IsVerdictByTwo accepting rejecting p Yes = program_accepts accepting p ≡ true
IsVerdictByTwo accepting rejecting p No = program_accepts rejecting p ≡ true
IsVerdictByTwo accepting rejecting p Abort = (program_accepts accepting p ≡ false) × (program_accepts rejecting p ≡ false)

-- what a filter whose answers are counted answers to a packet
abbrev pub Answers : CountedFilter → Packet → Verdict → Type 0
Answers (Programs accepting rejecting) p v = IsVerdictByTwo accepting rejecting p v
Answers (Asked filter) p v = IsVerdict filter p v

-- whether it accepts a packet
abbrev pub passes : CountedFilter → Packet → Bool
passes (Programs accepting rejecting) p = program_accepts accepting p
passes (Asked filter) p = accepts filter p

-- It answers every packet as this filter does.
pub record StandsFor (asked : AskedFilter) (filter : CountedFilter) : Type 0 where
  pub answers : (p : Packet) (v : Verdict) → HasBytes (frame_of p) → Answers filter p v → IsVerdict asked p v
  pub passes : (p : Packet) → HasBytes (frame_of p) → passes filter p ≡ accepts asked p
