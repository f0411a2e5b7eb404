-- What `bpftap compare` prints of files and reports, what OUT has afterwards, and its exit status.
-- Read it from the last definition up.
use Rattle.std.specs.Prelude.{◌≡◌, ◌≢◌, ◌⊎◌, ◌+◌, ◌^◌, ◌<◌, ℕ, Bool, true, false, List, [], ◌∷◌, ◌++◌, length, Option, Some, None, Result, Ok, Err, IfOk, IsErr, IsOk, All, option_copied}
use Rattle.std.specs.Borrow.{Bor}
use Rattle.std.specs.List.{AllZip}
use Rattle.std.specs.declared.io.Error.{Error}
use Rattle.savefile.specs.Savefile.{encoded}
use Rattle.savefile.specs.Writer.{IsBeginning}
use Rattle.savefile.specs.declared.fault.Fault.{Fault}
use Rattle.savefile.specs.declared.fault.Fault.TheVariants.{Device}
use Rattle.savefile.specs.declared.header.Order.TheVariants.{Little}
use Rattle.savefile.specs.declared.header.Unit.TheVariants.{Micro}
use Rattle.filter_same.specs.declared.sameness.Sameness.{Sameness}
use Rattle.filter_same.specs.declared.witness.Witness.{Witness}
use Rattle.fault_report.specs.declared.report.Report.{Report}
use Rattle.cli_text.specs.Status.{greater}
use Rattle.cli_text.specs.declared.status.Status.{Status}
use Rattle.cli_text.specs.declared.status.Status.TheVariants.{Clean, Failed, Negative}
use Rattle.cli_walk.specs.Walking.{stop}
use Rattle.cli_files.specs.Reading.{IsRefusedMemory}
use Rattle.cli_store.specs.Files.{IsRefusal, Places, Texts}
use Rattle.cli_args.specs.declared.compare.CompareWords.{CompareWords}
use Rattle.cli_answers.specs.declared.asked.Unasked.{Unasked}
use Rattle.cli_answers.specs.declared.asked.Unasked.TheVariants as unasked
use Rattle.cli_answers.specs.declared.captures.LinesEnd.{LinesEnd}
use Rattle.cli_answers.specs.declared.captures.SoughtCaptures.{SoughtCaptures}
use Rattle.cli_answers.specs.declared.captures.SoughtEnd.{SoughtEnd}
use Rattle.cli_answers.specs.declared.lines.PrintedCaptures.{PrintedCaptures}
use Rattle.cli_answers.specs.declared.printing.Unprinted.{Unprinted}
use Rattle.cli_answers.specs.declared.form.PacketForm.{PacketForm}
use Rattle.cli_answers.specs.Asked.{IsAskedFor, IsCaptureAt, IsFileStatus, IsUnaskedStatus, IsUngiven, IsUnopened}
use Rattle.cli_answers.specs.Captures.{SeeksIn}
use Rattle.cli_answers.specs.Counts.{asked_form}
use Rattle.cli_answers.specs.Lines.{PrintsTotals}
use Rattle.cli_answers.specs.Telling.{TellsEnd, TellsStop, TellsUnprinted, printed_status, sought_status, stop_status}
use Rattle.cli_compare.specs.declared.asked.PairAsked.{PairAsked}
use Rattle.cli_compare.specs.declared.asked.Uncompared.{Uncompared}
use Rattle.cli_compare.specs.declared.asked.Uncompared.TheVariants.{First, Second, Files}
use Rattle.cli_compare.specs.declared.each.DifferenceCounts.{DifferenceCounts}
use Rattle.cli_compare.specs.declared.outcome.OutFault.{OutFault}
use Rattle.cli_compare.specs.declared.outcome.OutFault.TheVariants.{Unmade, Unwritten}
use Rattle.cli_compare.specs.declared.pair.FilterPair.{FilterPair}
use Rattle.cli_compare.specs.Captures.{ComparesIn}
use Rattle.cli_compare.specs.Deciding.{HoldsOfPair, Prints, answer_status, packet_of, packet_of_witness}
use Rattle.cli_compare.specs.Pairs.{differs}
use Rattle.cli_compare.specs.Printed.{line_of}
use Rattle.cli_compare.specs.Telling.{IsRefusedReport, TellsOut, name_of_refusal}

-- ---- What is asked

-- the first filter is that of EXPR1, the second that of the listing's file, or of EXPR2
abbrev pub ArePair : Places → Texts → CompareWords → FilterPair → Type 0
ArePair place text words pair =
    IsAskedFor place text None (Some words.first.now) pair.first
    × IsAskedFor place text (option_copied words.listing) (option_copied words.second) pair.second

-- the path of a listing or of OUT, if there is one
abbrev pub path_of : Option (Bor (List ℕ)) → List (Bor (List ℕ))
path_of None = []
path_of (Some path) = path ∷ []

-- the files that are read: those of IN, in order, and the listing's
abbrev pub read_paths : CompareWords → List (Bor (List ℕ))
read_paths words = words.inputs.items ++ path_of words.listing

-- standard output goes to none of the files that are read and not to OUT, and OUT is none of those
pub record AreApart (place : Places) (printed : Option (List ℕ)) (words : CompareWords) : Type 0 where
  pub unprinted : All (λ path. printed ≢ Some (place path.now)) (read_paths words)
  pub unshared : All (λ output. printed ≢ Some (place output.now)) (path_of words.output)
  pub apart : All (λ output. All (λ path. place path.now ≢ place output.now) (read_paths words)) (path_of words.output)

-- by the words of the command line: these two filters, of these captures, which are the files of IN
-- in order
pub record Asks {R : Type 0} (left : R → Option (List ℕ)) (failures : R → ℕ) (place : Places) (text : Texts) (printed : Option (List ℕ)) (words : CompareWords) (asked : PairAsked R) : Type 0 where
  pub pair : ArePair place text words asked.pair
  pub apart : AreApart place printed words
  pub captures : AllZip (IsCaptureAt left failures place text) words.inputs.items asked.captures.items

-- ---- Why nothing is compared

-- why there is no first filter, or no second one
abbrev pub IsUnpaired : Places → Texts → Bool → CompareWords → Uncompared → Type 0
IsUnpaired place text failed words (First reason) = IsUngiven place text failed None (Some words.first.now) reason
IsUnpaired place text failed words (Second reason) =
    IsUngiven place text failed (option_copied words.listing) (option_copied words.second) reason
IsUnpaired place text failed words (Files reason) = ⊥

-- the paths are refused: standard output goes to a file that is read, or OUT would be lost
abbrev pub IsShared : Places → Option (List ℕ) → Bool → CompareWords → Unasked → Type 0
IsShared place printed failed words (unasked.Paths fault) = IsRefusal place printed failed true (read_paths words) (path_of words.output) fault
IsShared place printed failed words other = ⊥

-- there is no first filter, or no second one; or the paths are refused, or a capture is not opened
abbrev pub IsRefused : Places → Texts → Option (List ℕ) → Bool → CompareWords → Uncompared → Type 0
IsRefused place text printed failed words (First reason) = IsUnpaired place text failed words (First reason)
IsRefused place text printed failed words (Second reason) = IsUnpaired place text failed words (Second reason)
IsRefused place text printed failed words (Files reason) = IsShared place printed failed words reason ⊎ IsUnopened failed words.inputs.items reason

-- the exit status then
abbrev pub IsRefusedStatus : Uncompared → Status → Type 0
IsRefusedStatus (First reason) ended = IsUnaskedStatus reason ended
IsRefusedStatus (Second reason) ended = IsUnaskedStatus reason ended
IsRefusedStatus (Files reason) ended = IsUnaskedStatus reason ended

-- Nothing was printed, and the status says why. That reason alone was reported, with the name below
-- it: `one` says of a name and a fault that they were.
abbrev pub Refuses : {O : Type 0} → Places → Texts → Option (List ℕ) → Bool → CompareWords → (Option (List ℕ) → (Report → Type 0) → Type 0) → O → O → Status → Type 0
Refuses place text printed failed words one old new ended =
    (reason : Uncompared) × IsRefused place text printed failed words reason × IsRefusedStatus reason ended
    × one (name_of_refusal words reason) (IsRefusedReport words reason) × (new ≡ old)

-- ---- A line for each packet that is treated differently

-- The lines of the packets that the filters treat differently were printed, capture by capture up
-- to the first fault, in the form that is asked for; and then the counts of all. A device's fault
-- comes only if one failed.
pub record PrintsLines {R O : Type 0} (left : R → Option (List ℕ)) (failures : R → ℕ) (contents : O → Option (List ℕ)) (place : Places) (text : Texts) (printed : Option (List ℕ)) (failed : Bool) (words : CompareWords) (old new : O) (end : LinesEnd DifferenceCounts) : Type 0 where
  pub asked : PairAsked R
  pub asks : Asks left failures place text printed words asked
  pub mid : O
  pub compared : PrintedCaptures R DifferenceCounts
  pub lines : ComparesIn left failures contents (asked_form words.json) asked.pair asked.captures.items old mid compared
  pub sums : PrintsTotals contents (line_of (asked_form words.json)) compared.totals mid new end.printed
  pub counts : end.counts ≡ compared.totals.counts
  pub read : end.read ≡ compared.read
  pub broke : (n : ℕ) → end.read ≡ Err (stop n Device) → failed ≡ true

-- ---- Whether a packet is treated differently

-- A packet was looked for that the filters treat differently, in the captures in order.
pub record Seeks {R : Type 0} (left : R → Option (List ℕ)) (failures : R → ℕ) (place : Places) (text : Texts) (printed : Option (List ℕ)) (failed : Bool) (words : CompareWords) (end : SoughtEnd) : Type 0 where
  pub asked : PairAsked R
  pub asks : Asks left failures place text printed words asked
  pub sought : SoughtCaptures R
  pub seeks : SeeksIn left failures (differs asked.pair) asked.captures.items sought
  pub found : end.found ≡ sought.found
  pub broke : (n : ℕ) → end.found ≡ Err (stop n Device) → failed ≡ true

-- ---- OUT, which has the packet that shows a difference

-- the savefile of this one packet
abbrev pub savefile_of : Witness → List ℕ
savefile_of w = encoded Little Micro (2 ^ 18) (packet_of_witness w ∷ [])

-- the file at a place is as it was, or has a prefix of a text
abbrev pub BrokeOffAt : Texts → Texts → List ℕ → List ℕ → Type 0
BrokeOffAt old new at whole = (new at ≡ old at) ⊎ ((front : List ℕ) × (new at ≡ Some front) × IsBeginning front whole)

-- OUT has the savefile of a packet; or it was not made, since memory was refused or a device
-- failed; or writing it broke off, since a device failed or the packet is too long
abbrev pub IsOut : Texts → Texts → Bool → List ℕ → Witness → Result (Unit {0}) OutFault → Type 0
IsOut old new failed at w (Ok done) = new at ≡ Some (savefile_of w)
IsOut old new failed at w (Err (Unmade error)) = (new at ≡ old at) × (IsRefusedMemory error ⊎ (failed ≡ true))
IsOut old new failed at w (Err (Unwritten error)) = BrokeOffAt old new at (savefile_of w) × ((failed ≡ true) ⊎ (2 ^ 18 < length w.bytes.items))

-- what writing it came to, by how it was closed and how its savefile was written
abbrev pub out_of : Result (Unit {0}) Error → Result (Unit {0}) Fault → Result (Unit {0}) OutFault
out_of (Ok closed) (Ok written) = Ok tt
out_of (Ok closed) (Err fault) = Err (Unwritten None)
out_of (Err error) written = Err (Unwritten (Some error))

-- the exit status of that
abbrev pub IsOutStatus : Result (Unit {0}) OutFault → Status → Type 0
IsOutStatus (Ok done) ended = ended ≡ Clean
IsOutStatus (Err (Unmade error)) ended = IsFileStatus error ended
IsOutStatus (Err (Unwritten error)) ended = ended ≡ Failed

-- If OUT is asked for and an answer shows a packet, it was written there; why it was not is among
-- what was reported: `among` says of a fault what is. The status is the greater one of both.
abbrev pub WritesPacket : Places → Texts → Texts → Bool → Option (Bor (List ℕ)) → Option Witness → Result Sameness Unprinted → ((Report → Type 0) → Type 0) → Status → Type 0
WritesPacket place old new failed None packet answer among ended = (new ≡ old) × (ended ≡ answer_status answer)
WritesPacket place old new failed (Some output) None answer among ended = (new ≡ old) × (ended ≡ answer_status answer)
WritesPacket place old new failed (Some output) (Some w) answer among ended =
    (wrote : Result (Unit {0}) OutFault) × (status : Status) × IsOut old new failed (place output.now) w wrote × IsOutStatus wrote status
    × TellsOut among output wrote × (ended ≡ greater (answer_status answer) status)

-- ---- Every packet that there can be

-- Two filters were decided: an answer that holds of both was printed, unless nothing is wanted, and
-- the packet that it shows was written. Why either was not is among what was reported.
abbrev pub DecidesPair : Places → Texts → Texts → Bool → CompareWords → FilterPair → ((Report → Type 0) → Type 0) → Option (List ℕ) → Option (List ℕ) → Status → Type 0
DecidesPair place text after failed words pair among old new ended =
    (answer : Result Sameness Unprinted) × IfOk answer (HoldsOfPair pair) × Prints words.quiet words.json pair old new answer
    × TellsUnprinted among answer × WritesPacket place text after failed words.output (packet_of answer) answer among ended

-- the same of the two filters that are asked for
pub record Decides {O : Type 0} (contents : O → Option (List ℕ)) (place : Places) (text after : Texts) (printed : Option (List ℕ)) (failed : Bool) (words : CompareWords) (among : (Report → Type 0) → Type 0) (old new : O) (ended : Status) : Type 0 where
  pub pair : FilterPair
  pub are : ArePair place text words pair
  pub apart : AreApart place printed words
  pub decides : DecidesPair place text after failed words pair among (contents old) (contents new) ended

-- ---- The command

-- the lines were printed, or nothing was
abbrev pub LinesAnswer : {R O : Type 0} → (R → Option (List ℕ)) → (R → ℕ) → (O → Option (List ℕ)) → Places → Texts → Option (List ℕ) → Bool → CompareWords → (Option (List ℕ) → (Report → Type 0) → Type 0) → ((Report → Type 0) → Type 0) → O → O → Status → Type 0
LinesAnswer left failures contents place text printed failed words one among old new ended =
    Refuses place text printed failed words one old new ended
    ⊎ ((end : LinesEnd DifferenceCounts) × PrintsLines left failures contents place text printed failed words old new end
    × (ended ≡ greater (printed_status end.printed) (stop_status end.read)) × TellsEnd among words.inputs.items end.printed end.read)

-- only the status answers
abbrev pub StatusAnswers : {R O : Type 0} → (R → Option (List ℕ)) → (R → ℕ) → Places → Texts → Option (List ℕ) → Bool → CompareWords → (Option (List ℕ) → (Report → Type 0) → Type 0) → O → O → Status → Type 0
StatusAnswers left failures place text printed failed words one old new ended =
    Refuses place text printed failed words one old new ended
    ⊎ ((end : SoughtEnd) × Seeks left failures place text printed failed words end × (new ≡ old) × (ended ≡ sought_status Negative Clean end.found)
    × TellsStop (one None) words.inputs.items end.found)

-- the filters were decided, or nothing was printed and no file changed
abbrev pub DecidesAnswer : {O : Type 0} → (O → Option (List ℕ)) → Places → Texts → Texts → Option (List ℕ) → Bool → CompareWords → (Option (List ℕ) → (Report → Type 0) → Type 0) → ((Report → Type 0) → Type 0) → O → O → Status → Type 0
DecidesAnswer contents place text after printed failed words one among old new ended =
    (Refuses place text printed failed words one old new ended × (after ≡ text))
    ⊎ Decides contents place text after printed failed words among old new ended

-- no file changed but OUT
abbrev pub KeepsOthers : Places → Texts → Texts → Option (Bor (List ℕ)) → Type 0
KeepsOthers place old new None = new ≡ old
KeepsOthers place old new (Some output) = (p : List ℕ) → p ≢ place output.now → new p ≡ old p

-- A call of `bpftap compare`: what standard output had, which was `old`, is now `new`, and the
-- files, which had `text`, have `after`. Without IN the filters are decided; with IN the packets
-- that they treat differently are printed, or with `-q` only the status answers. `one` says what the
-- only fault is that was reported, and which name is below it; `among` what one of several is.
pub record Answers {R O : Type 0} (left : R → Option (List ℕ)) (failures : R → ℕ) (contents : O → Option (List ℕ)) (place : Places) (text after : Texts) (printed : Option (List ℕ)) (failed : Bool) (words : CompareWords) (one : Option (List ℕ) → (Report → Type 0) → Type 0) (among : (Report → Type 0) → Type 0) (old new : O) (ended : Status) : Type 0 where
  pub decided : words.inputs.items ≡ [] → DecidesAnswer contents place text after printed failed words one among old new ended
  pub sought : words.inputs.items ≢ [] → words.quiet ≡ true → StatusAnswers left failures place text printed failed words one old new ended
  pub compared : words.inputs.items ≢ [] → words.quiet ≡ false → LinesAnswer left failures contents place text printed failed words one among old new ended
