-- What is printed of two filters that are decided for every packet, and the exit status.
use Rattle.std.specs.Prelude.{◌≡◌, ℕ, Bool, true, false, if◌then◌else◌, List, [], ◌++◌, length, Option, Some, None, Result, Ok, Err, IfOk, IfErr, ⊤, codes}
use Rattle.std.specs.Fmt.{decimal}
use Rattle.std.specs.Io.KnownBytes.{Appends, Keeps}
use Rattle.savefile.specs.declared.packet.Packet.{Packet}
use Rattle.filterlang.specs.Trees.{tree_of}
use Rattle.filter_meaning.specs.Meaning.{Packet as Frame, Test, accepts, meaning}
use Rattle.filter_explain.specs.Deciding.{verdict_text}
use Rattle.filter_same.specs.declared.sameness.Cause.{Cause}
use Rattle.filter_same.specs.declared.sameness.Cause.TheVariants.{Graphs, Nodes, Steps, Product, Quotient, Load, Far, Places, Levels}
use Rattle.filter_same.specs.declared.sameness.Sameness.{Sameness}
use Rattle.filter_same.specs.declared.sameness.Sameness.TheVariants.{Same, SameAsCaptured, Short, Differ, NotDecided}
use Rattle.filter_same.specs.declared.witness.Witness.{Witness}
use Rattle.filter_same.specs.Programs.{keeps, program_test}
use Rattle.filter_same.specs.Same.{HoldsOf}
use Rattle.cli_text.specs.declared.status.Status.{Status}
use Rattle.cli_text.specs.Status.{greater}
use Rattle.cli_text.specs.declared.status.Status.TheVariants.{Clean, Negative, Undecided, Refused, Failed}
use Rattle.line_text.specs.declared.form.LineForm.{LineForm}
use Rattle.line_text.specs.declared.form.LineForm.TheVariants as line
use Rattle.line_text.specs.Sending.{TakesPart}
use Rattle.line_text.specs.Texts.{end_of_line}
use Rattle.cli_answers.specs.Dumps.{dump_text, hex_text}
use Rattle.cli_answers.specs.declared.filter.AskedFilter.{AskedFilter}
use Rattle.cli_answers.specs.declared.filter.AskedFilter.TheVariants.{Expression, Program}
use Rattle.cli_answers.specs.declared.form.PacketForm.TheVariants.{Text}
use Rattle.cli_answers.specs.declared.printing.Unprinted.{Unprinted}
use Rattle.cli_answers.specs.declared.printing.Unprinted.TheVariants.{NoMemory, Output}
use Rattle.cli_compare.specs.declared.pair.FilterPair.{FilterPair}
use Rattle.cli_compare.specs.Compared.{IsOf, PutsBoth}
use Rattle.cli_compare.specs.Pairs.{Difference}

-- why two filters are not decided, within a budget of nodes
abbrev pub cause_text : ℕ → Cause → List ℕ
cause_text budget Graphs = codes "no packet was found that shows a difference"
cause_text budget Nodes = codes "it takes more than " ++ decimal budget ++ codes " nodes"
cause_text budget Steps = codes "it takes too many steps"
cause_text budget Product = codes "too large, with a product of two fields"
cause_text budget Quotient = codes "too large, with a division by a field"
cause_text budget Load = codes "too large, with bytes at an offset that is calculated"
cause_text budget Far = codes "a byte at offset 131072 or later may be looked at"
cause_text budget Places = codes "a program is walked at too many places"
cause_text budget Levels = codes "an expression has too many levels"

-- the line of the answer
abbrev pub answer_line : ℕ → Sameness → List ℕ
answer_line budget Same = codes "same" ++ end_of_line
answer_line budget SameAsCaptured = codes "same as captured" ++ end_of_line
answer_line budget (Short w) = codes "differ only where one aborts" ++ end_of_line
answer_line budget (Differ w) = codes "differ" ++ end_of_line
answer_line budget (NotDecided cause) = codes "not decided: " ++ cause_text budget cause ++ end_of_line

-- a witness as a packet that is written, at time 0
abbrev pub packet_of_witness : Witness → Packet
packet_of_witness w = record { sec = 0; nanos = 0; len = w.wire; bytes = w.bytes.items }

-- ---- Both filters

-- a filter accepts a packet: its expression does, or its program keeps bytes of it
abbrev pub asked_accepts : AskedFilter → Frame → Bool
asked_accepts (Expression expr) = accepts (tree_of expr)
asked_accepts (Program program) = keeps program.value

-- what a filter says of a packet
abbrev pub asked_test : AskedFilter → Test
asked_test (Expression expr) = meaning (tree_of expr)
asked_test (Program program) = program_test program.value

-- what an answer says of both filters
abbrev pub HoldsOfPair : FilterPair → Sameness → Type 0
HoldsOfPair pair s = HoldsOf (asked_accepts pair.first) (asked_accepts pair.second) (asked_test pair.first) (asked_test pair.second) s

-- `len W captured C first `
abbrev pub lengths_text : Witness → List ℕ
lengths_text w = codes "len " ++ decimal w.wire ++ codes " captured " ++ decimal (length w.bytes.items) ++ codes " first "

-- after what was there, the line of a witness was put: `len W captured C first Yes REASON second No REASON`, with what each filter answers to it
abbrev pub PutsWitness : FilterPair → Witness → List ℕ → List ℕ → Type 0
PutsWitness pair w old new =
    (d : Difference) × IsOf Text pair 0 (packet_of_witness w) d
    × (new ≡ old ++ lengths_text w ++ (verdict_text d.first.verdict ++ codes " ") ++ d.first.reason
    ++ codes " second " ++ (verdict_text d.second.verdict ++ codes " ") ++ d.second.reason ++ end_of_line)

-- the same of the witness of an answer, if it has one
abbrev pub PutsDetail : FilterPair → Sameness → List ℕ → List ℕ → Type 0
PutsDetail pair Same old new = new ≡ old
PutsDetail pair SameAsCaptured old new = new ≡ old
PutsDetail pair (Short w) old new = PutsWitness pair w old new
PutsDetail pair (Differ w) old new = PutsWitness pair w old new
PutsDetail pair (NotDecided cause) old new = new ≡ old

-- the packet that an answer has
abbrev pub witness_of : Sameness → Option Witness
witness_of (Short w) = Some w
witness_of (Differ w) = Some w
witness_of s = None

-- its bytes as they are printed
abbrev pub dump_of : Option Witness → List ℕ
dump_of (Some w) = dump_text w.bytes.items
dump_of None = []

-- a text is the line of an answer, the line of its witness, and the bytes of the witness
abbrev pub AreLines : FilterPair → ℕ → Sameness → List ℕ → Type 0
AreLines pair budget s text = (lines : List ℕ) × PutsDetail pair s (answer_line budget s) lines × (text ≡ lines ++ dump_of (witness_of s))

-- ---- The object of an answer

-- `,"length":W,"captured":C,"bytes":"`
abbrev pub size_json : Witness → List ℕ
size_json w = codes ",\"length\":" ++ decimal w.wire ++ codes ",\"captured\":" ++ decimal (length w.bytes.items) ++ codes ",\"bytes\":\""

-- after this text, the lengths and the bytes of a witness
abbrev pub with_witness : List ℕ → Witness → List ℕ
with_witness text w = text ++ size_json w ++ hex_text w.bytes.items ++ codes "\","

-- a text is the object of an answer that begins so and has this witness
abbrev pub PutsWitnessObject : FilterPair → Witness → (head text : List ℕ) → Type 0
PutsWitnessObject pair w head text = PutsBoth pair (packet_of_witness w) (with_witness head w) text

-- a text is the object of an answer
abbrev pub IsObject : FilterPair → ℕ → Sameness → List ℕ → Type 0
IsObject pair budget Same text = text ≡ codes "{\"answer\":\"same\"}\n"
IsObject pair budget SameAsCaptured text = text ≡ codes "{\"answer\":\"same as captured\"}\n"
IsObject pair budget (Short w) text =
    PutsWitnessObject pair w (codes "{\"answer\":\"differ only where one aborts\"") text
IsObject pair budget (Differ w) text = PutsWitnessObject pair w (codes "{\"answer\":\"differ\"") text
IsObject pair budget (NotDecided cause) text = text ≡ codes "{\"answer\":\"not decided\",\"cause\":\"" ++ cause_text budget cause ++ codes "\"}\n"

-- ---- What is printed

-- a text is what an answer is printed as
abbrev pub IsText : LineForm → FilterPair → ℕ → Sameness → List ℕ → Type 0
IsText line.Text pair budget s text = AreLines pair budget s text
IsText line.Json pair budget s text = IsObject pair budget s text

-- a text of an answer was printed
abbrev pub PrintsAnswer : LineForm → FilterPair → ℕ → Sameness → Option (List ℕ) → Option (List ℕ) → Type 0
PrintsAnswer form pair budget s old new = (text : List ℕ) × IsText form pair budget s text × Appends old new text

-- or nothing; or, as the writer failed, a beginning of what an answer is printed as
abbrev pub IsUnanswered : LineForm → FilterPair → ℕ → Option (List ℕ) → Option (List ℕ) → Unprinted → Type 0
IsUnanswered form pair budget old new NoMemory = Keeps old new
IsUnanswered form pair budget old new (Output error) =
    (s : Sameness) × HoldsOfPair pair s × (text : List ℕ) × IsText form pair budget s text × TakesPart old new text

-- the exit status of an answer, which was printed or not
abbrev pub answer_status : Result Sameness Unprinted → Status
answer_status (Ok Same) = Clean
answer_status (Ok SameAsCaptured) = Clean
answer_status (Ok (Short w)) = Negative
answer_status (Ok (Differ w)) = Negative
answer_status (Ok (NotDecided cause)) = Undecided
answer_status (Err NoMemory) = Refused
answer_status (Err (Output error)) = Failed

-- ---- The exit status of the command

-- a status that answers: the filters are the same, they differ, or they are not decided
abbrev pub IsAnswerStatus : Status → Type 0
IsAnswerStatus Clean = ⊤
IsAnswerStatus Negative = ⊤
IsAnswerStatus Undecided = ⊤
IsAnswerStatus other = ⊥

-- the form that is asked for
abbrev pub form_of : Bool → LineForm
form_of json = if json then line.Json else line.Text

-- the packet that an answer has, if there is an answer
abbrev pub packet_of : Result Sameness Unprinted → Option Witness
packet_of (Ok s) = witness_of s
packet_of (Err e) = None

-- the status after an answer whose packet goes to a file: a worse one if it is not written
abbrev pub IsStatusWith : Option Witness → Result Sameness Unprinted → Status → Type 0
IsStatusWith None answer status = status ≡ answer_status answer
IsStatusWith (Some w) answer status = (written : Status) × (status ≡ greater (answer_status answer) written)

-- the status after an answer: its own, but for that
abbrev pub IsStatusAfter : {Path : Type 0} → Option Path → Result Sameness Unprinted → Status → Type 0
IsStatusAfter None answer status = status ≡ answer_status answer
IsStatusAfter (Some path) answer status = IsStatusWith (packet_of answer) answer status

-- an answer was printed, or not as the writer failed; or nothing was, if that is not wanted, and then only refused memory leaves no answer
abbrev pub Prints : (quiet json : Bool) → FilterPair → Option (List ℕ) → Option (List ℕ) → Result Sameness Unprinted → Type 0
Prints quiet json pair old new answer =
    (quiet ≡ true → new ≡ old)
    × (quiet ≡ true → IfErr answer (λ why. why ≡ NoMemory))
    × (quiet ≡ false → IfOk answer (λ s. PrintsAnswer (form_of json) pair 2000000 s old new))
    × (quiet ≡ false → IfErr answer (IsUnanswered (form_of json) pair 2000000 old new))

-- both filters were decided: an answer that holds was printed unless that is not wanted, and the status is its own
abbrev pub AnswersPair : {Path : Type 0} → (quiet json : Bool) → Option Path → FilterPair → Option (List ℕ) → Option (List ℕ) → Status → Type 0
AnswersPair quiet json output pair old new status =
    (answer : Result Sameness Unprinted) × IfOk answer (HoldsOfPair pair) × Prints quiet json pair old new answer × IsStatusAfter output answer status
