-- What is printed of a packet and of a filter's answer to it in an object of JSON.
use Rattle.std.specs.Prelude.{◌≡◌, ℕ, false, List, ◌++◌, Option, Some, None, length, codes}
use Rattle.std.specs.Fmt.{decimal}
use Rattle.savefile.specs.declared.packet.Packet.{Packet}
use Rattle.bpfvm.specs.declared.insn.Insn.{Insn}
use Rattle.bpfvm.specs.Images.{brief_text}
use Rattle.filterlang.specs.Trees.{Tree, tree_of}
use Rattle.filter_meaning.specs.declared.cause.AbortCause.{AbortCause}
use Rattle.filter_meaning.specs.declared.cause.AbortCause.TheVariants.{NotCaptured, ZeroDivisor}
use Rattle.filter_meaning.specs.declared.verdict.Verdict.{Verdict}
use Rattle.filter_meaning.specs.declared.verdict.Verdict.TheVariants.{Yes, No, Abort}
use Rattle.filter_meaning.specs.Meaning.{meaning}
use Rattle.filter_explain.specs.Asking.{Question, IsLast, questions}
use Rattle.filter_explain.specs.Deciding.{part_text}
use Rattle.line_text.specs.Strings.{json_string}
use Rattle.cli_answers.specs.declared.filter.AskedFilter.{AskedFilter}
use Rattle.cli_answers.specs.declared.filter.AskedFilter.TheVariants.{Expression, Program}
use Rattle.cli_answers.specs.declared.form.PacketForm.{PacketForm}
use Rattle.cli_answers.specs.declared.form.PacketForm.TheVariants.{Text, Json}
use Rattle.cli_answers.specs.Answers.{Answer, answer, EndsRunAs, IsAnswer, frame_of}

-- ---- The parts of an object

-- where a packet is: `{"capture":C,"place":P,`
abbrev pub place_json : (capture place : ℕ) → List ℕ
place_json capture place = codes "{\"capture\":" ++ decimal capture ++ codes ",\"place\":" ++ decimal place ++ codes ","

-- when it was captured
abbrev pub time_json : (seconds nanoseconds : ℕ) → List ℕ
time_json seconds nanoseconds = codes "\"seconds\":" ++ decimal seconds ++ codes ",\"nanoseconds\":" ++ decimal nanoseconds ++ codes ","

-- how long it was on the wire, and how many bytes of it were captured
abbrev pub lengths_json : (wire captured : ℕ) → List ℕ
lengths_json wire captured = codes "\"length\":" ++ decimal wire ++ codes ",\"captured\":" ++ decimal captured ++ codes ","

unfoldable pub packet_json : (capture place : ℕ) → Packet → List ℕ
packet_json capture place p = place_json capture place ++ time_json p.sec p.nanos ++ lengths_json p.len (length p.bytes)

-- what a filter answers
abbrev pub verdict_json : Verdict → List ℕ
verdict_json Yes = codes "\"answer\":\"yes\","
verdict_json No = codes "\"answer\":\"no\","
verdict_json Abort = codes "\"answer\":\"abort\","

-- why a primitive or a relation aborted, where it did
abbrev pub cause_json : Option AbortCause → List ℕ
cause_json None = codes ""
cause_json (Some (NotCaptured place)) = codes ",\"cause\":{\"byte\":" ++ decimal place ++ codes "}"
cause_json (Some ZeroDivisor) = codes ",\"cause\":{\"divisor\":0}"

-- the primitive or relation that decides, in the words of the text, and why it aborted
abbrev pub question_json : Question → List ℕ
question_json q = codes "\"decided\":" ++ json_string (part_text q.negated q.part) ++ cause_json q.cause

-- the number that a program answers
abbrev pub returned_json : ℕ → List ℕ
returned_json number = codes "\"returned\":" ++ decimal number ++ codes ","

-- the place of the instruction where its run ended
abbrev pub at_json : ℕ → List ℕ
at_json place = codes "\"at\":" ++ decimal place ++ codes ","

abbrev pub run_json : (number place : ℕ) → List ℕ
run_json number place = returned_json number ++ at_json place

-- that instruction
abbrev pub instruction_json : Insn → List ℕ
instruction_json insn = codes "\"instruction\":" ++ json_string (brief_text insn)

abbrev pub end_json : (number place : ℕ) → Insn → List ℕ
end_json number place insn = run_json number place ++ instruction_json insn

-- ---- Answers

-- Of an expression: its meaning; told is the primitive or relation that decides, which is the last one of those that are asked.
pub record DecidesInJson (tree : Tree) (a : Answer) : Type 0 where
  pub answers : a.verdict ≡ meaning tree (frame_of a.packet)
  pub last : Question
  pub decides : IsLast last (questions false tree (frame_of a.packet))
  pub told : a.reason ≡ question_json last

-- what a filter answers
abbrev pub IsJsonAnswer : AskedFilter → Answer → Type 0
IsJsonAnswer (Expression expr) a = DecidesInJson (tree_of expr) a
IsJsonAnswer (Program program) a = EndsRunAs end_json program.value a

-- what a filter answers, with the reason in this form
abbrev pub IsAnswerIn : PacketForm → AskedFilter → Answer → Type 0
IsAnswerIn Text filter a = IsAnswer filter a
IsAnswerIn (Json capture) filter a = IsJsonAnswer filter a

-- after what a line had, a verdict and its reason were put
abbrev pub PutsInJson : List ℕ → List ℕ → (Answer → Type 0) → Packet → Verdict → Type 0
PutsInJson old new Is p verdict =
    (reason : List ℕ) × Is (answer p verdict reason) × (new ≡ old ++ verdict_json verdict ++ reason)
