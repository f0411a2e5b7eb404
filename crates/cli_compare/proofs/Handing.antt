-- What was printed of an answer does not wait.
use Rattle.std.proofs.Common.{◌≡◌, Option, Some, None, Result, Ok, Err, subst}
use Rattle.std.specs.Prelude.{OnOk}
use Rattle.filter_same.specs.declared.sameness.Sameness.{Sameness}
use Rattle.filter_same.specs.declared.witness.Witness.{Witness}
use Rattle.cli_text.specs.Status.{greater}
use Rattle.cli_text.specs.declared.status.Status.{Status}
use Rattle.cli_text.specs.declared.status.Status.TheVariants.{Clean, Negative, Undecided, Refused, Damaged, Failed}
use Rattle.cli_answers.specs.declared.printing.Unprinted.{Unprinted}
use Rattle.cli_answers.specs.declared.printing.Unprinted.TheVariants.{NoMemory, Output}
use Rattle.cli_compare.specs.Deciding.{IsAnswerStatus, IsStatusAfter, IsStatusWith, answer_status, packet_of}

-- of two statuses whose greater one answers the first does
answers-first : (a b : Status) → IsAnswerStatus (greater a b) → IsAnswerStatus a
answers-first Clean b is = tt
answers-first Negative b is = tt
answers-first Undecided b is = tt
answers-first Failed b is = is
answers-first Damaged Clean is = is
answers-first Damaged Negative is = is
answers-first Damaged Undecided is = is
answers-first Damaged Refused is = is
answers-first Damaged Damaged is = is
answers-first Damaged Failed is = is
answers-first Refused Clean is = is
answers-first Refused Negative is = is
answers-first Refused Undecided is = is
answers-first Refused Refused is = is
answers-first Refused Damaged is = is
answers-first Refused Failed is = is

-- where the status answers there is an answer
of-answer : (answer : Result Sameness Unprinted) (P : Type 0) → IsAnswerStatus (answer_status answer) → OnOk answer P → P
of-answer (Ok answer) P is on = on
of-answer (Err NoMemory) P is on = absurd is
of-answer (Err (Output error)) P is on = absurd is

with-packet : (packet : Option Witness) (answer : Result Sameness Unprinted) (ended : Status) → IsStatusWith packet answer ended → IsAnswerStatus ended → IsAnswerStatus (answer_status answer)
with-packet None answer ended is answers = subst IsAnswerStatus is answers
with-packet (Some w) answer ended (written, is) answers = answers-first (answer_status answer) written (subst IsAnswerStatus is answers)

answer-is : {Path : Type 0} (output : Option Path) (answer : Result Sameness Unprinted) (ended : Status) → IsStatusAfter output answer ended → IsAnswerStatus ended → IsAnswerStatus (answer_status answer)
answer-is None answer ended is answers = subst IsAnswerStatus is answers
answer-is (Some path) answer ended is answers = with-packet (packet_of answer) answer ended is answers

pub answer-handed : {Path : Type 0} (output : Option Path) (answer : Result Sameness Unprinted) (ended : Status) (P : Type 0) → IsStatusAfter output answer ended → IsAnswerStatus ended → OnOk answer P → P
answer-handed output answer ended P is answers on = of-answer answer P (answer-is output answer ended is answers) on
