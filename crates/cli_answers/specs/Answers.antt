-- What a filter answers to packets.
use Rattle.std.specs.Prelude.{◌≡◌, ℕ, ◌==◌, Bool, true, false, List, ◌++◌, if◌then◌else◌, codes}
use Rattle.savefile.specs.declared.packet.Packet.{Packet}
use Rattle.bpfvm.specs.declared.insn.Insn.{Insn}
use Rattle.bpfvm.specs.Machine.{beginning}
use Rattle.bpfvm.specs.Ends.{EndsAt}
use Rattle.bpfvm.specs.Validity.{is_return}
use Rattle.filterlang.specs.Trees.{Tree, tree_of}
use Rattle.filter_meaning.specs.declared.verdict.Verdict.{Verdict}
use Rattle.filter_meaning.specs.declared.verdict.Verdict.TheVariants.{Yes, No, Abort}
use Rattle.filter_meaning.specs.Meaning.{Packet as Frame, packet_of, meaning}
use Rattle.filter_explain.specs.Asking.{questions}
use Rattle.filter_explain.specs.Deciding.{verdict_text, last_text}
use Rattle.cli_answers.specs.declared.filter.AskedFilter.{AskedFilter}
use Rattle.cli_answers.specs.declared.filter.AskedFilter.TheVariants.{Expression, Program}
use Rattle.cli_answers.specs.Printed.{end_text}

-- A packet, what a filter answers to it, and what is printed of the reason.
pub record Answer : Type 0 where
  pub packet : Packet
  pub verdict : Verdict
  pub reason : List ℕ

abbrev pub answer : Packet → Verdict → List ℕ → Answer
answer p verdict reason = record { packet = p; verdict = verdict; reason = reason }

-- a packet as an expression is asked of it
abbrev pub frame_of : Packet → Frame
frame_of p = packet_of p.bytes p.len

-- Of an expression: its meaning; `told` is the primitive or relation that decides, which is the last one of those that are asked.
pub record Decides (tree : Tree) (a : Answer) : Type 0 where
  pub answers : a.verdict ≡ meaning tree (frame_of a.packet)
  pub told : a.reason ≡ last_text (questions false tree (frame_of a.packet))

-- What the answer of a run counts as whose last instruction is this one: a run that no return ends is an Abort.
abbrev pub ended_as : Insn → ℕ → Verdict
ended_as insn n = if is_return insn then (if n == 0 then No else Yes) else Abort

-- the run of a program over a packet ends at this instruction, and answers this number
abbrev pub IsEndOfRun : List Insn → Packet → (number place : ℕ) → Insn → Type 0
IsEndOfRun program p number place insn = (ends : EndsAt program p.bytes p.len beginning place number) × (ends.insn ≡ insn)

-- Of a program: the end of its run; `told` is the number that it answers, and its last instruction with its place, in these words.
pub record EndsRunAs (words : ℕ → ℕ → Insn → List ℕ) (program : List Insn) (a : Answer) : Type 0 where
  pub number : ℕ
  pub place : ℕ
  pub insn : Insn
  pub ends : IsEndOfRun program a.packet number place insn
  pub answers : a.verdict ≡ ended_as insn number
  pub told : a.reason ≡ words number place insn

-- in words of the text
abbrev pub EndsRun : List Insn → Answer → Type 0
EndsRun program a = EndsRunAs end_text program a

-- what a filter answers
abbrev pub IsAnswer : AskedFilter → Answer → Type 0
IsAnswer (Expression expr) a = Decides (tree_of expr) a
IsAnswer (Program program) a = EndsRun program.value a

-- after what a line had, a verdict and its reason were put
abbrev pub PutsAnswer : List ℕ → List ℕ → (Answer → Type 0) → Packet → Verdict → Type 0
PutsAnswer old new Is p verdict =
    (reason : List ℕ) × Is (answer p verdict reason) × (new ≡ old ++ (verdict_text verdict ++ codes " ") ++ reason)
