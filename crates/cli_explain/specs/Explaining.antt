-- What `bpftap explain` prints of files and reports, and its exit status. Read it from the last definition up.
use Rattle.std.specs.Prelude.{◌≡◌, ◌⊎◌, ℕ, ◌+◌, Bool, true, false, List, [], ◌∷◌, Option, Some, None, Result, Ok, Err, option_copied}
use Rattle.std.specs.Borrow.{Bor}
use Rattle.savefile.specs.declared.fault.Fault.{Fault}
use Rattle.savefile.specs.declared.fault.Fault.TheVariants.{Device}
use Rattle.fault_report.specs.declared.report.Report.{Report}
use Rattle.cli_text.specs.Status.{greater}
use Rattle.cli_text.specs.declared.status.Status.{Status}
use Rattle.cli_text.specs.declared.status.Status.TheVariants.{Clean, Negative}
use Rattle.cli_walk.specs.Walking.{stop}
use Rattle.cli_store.specs.Files.{Places, Texts}
use Rattle.cli_args.specs.declared.explain.ExplainWords.{ExplainWords}
use Rattle.cli_args.specs.declared.places.PlaceRange.{PlaceRange}
use Rattle.cli_answers.specs.declared.asked.Asked.{Asked}
use Rattle.cli_answers.specs.declared.asked.Unasked.{Unasked}
use Rattle.cli_answers.specs.declared.captures.LinesEnd.{LinesEnd}
use Rattle.cli_answers.specs.declared.captures.SoughtCaptures.{SoughtCaptures}
use Rattle.cli_answers.specs.declared.captures.SoughtEnd.{SoughtEnd}
use Rattle.cli_answers.specs.declared.counts.VerdictCounts.{VerdictCounts}
use Rattle.cli_answers.specs.declared.filter.AskedFilter.{AskedFilter}
use Rattle.cli_answers.specs.declared.form.PacketForm.{PacketForm}
use Rattle.cli_answers.specs.declared.lines.PrintedCaptures.{PrintedCaptures}
use Rattle.cli_answers.specs.declared.printing.Unprinted.{Unprinted}
use Rattle.cli_answers.specs.Asked.{IsAsked, IsUnasked, IsUnaskedReport, IsUnaskedStatus}
use Rattle.cli_answers.specs.Captures.{SeeksIn}
use Rattle.cli_answers.specs.Counts.{asked_form, line_of, of_capture}
use Rattle.cli_answers.specs.Lines.{PrintsTotals}
use Rattle.cli_answers.specs.Seeking.{accepts}
use Rattle.cli_answers.specs.Telling.{TellsEnd, TellsStop, printed_status, sought_status, stop_status}
use Rattle.cli_explain.specs.declared.one.Found.{Found}
use Rattle.cli_explain.specs.declared.outcome.FullEnd.{FullEnd}
use Rattle.cli_explain.specs.Captures.{ExplainsIn}
use Rattle.cli_explain.specs.Range.{FindsRange}
use Rattle.cli_explain.specs.Telling.{TellsFound, found_status}

-- ---- What is asked

-- by the words of the command line: this filter, of these captures, which are the files of IN in order
abbrev pub Asks : {R : Type 0} → (R → Option (List ℕ)) → (R → ℕ) → Places → Texts → Option (List ℕ) → ExplainWords → Asked R → Type 0
Asks left failures place text printed words asked =
    IsAsked left failures place text printed (option_copied words.listing) (option_copied words.expr) words.inputs.items asked

-- or why nothing is
abbrev pub IsRefused : Places → Texts → Option (List ℕ) → Bool → ExplainWords → Unasked → Type 0
IsRefused place text printed failed words reason =
    IsUnasked place text printed failed (option_copied words.listing) (option_copied words.expr) words.inputs.items reason

-- Nothing was printed, and the status says why; `one` says what the fault is that was reported, which is that reason, and no other was.
abbrev pub Refuses : {O : Type 0} → Places → Texts → Option (List ℕ) → Bool → ExplainWords → ((Report → Type 0) → Type 0) → O → O → Status → Type 0
Refuses place text printed failed words one old new ended =
    (reason : Unasked) × IsRefused place text printed failed words reason × IsUnaskedStatus reason ended × one (IsUnaskedReport reason) × (new ≡ old)

-- ---- A line for each packet

-- The lines of the packets of the captures were printed, in order up to the first fault, in the form that is asked for; and then the counts of
-- all. A device's fault comes only if one failed.
pub record PrintsLines {R O : Type 0} (left : R → Option (List ℕ)) (failures : R → ℕ) (contents : O → Option (List ℕ)) (place : Places) (text : Texts) (printed : Option (List ℕ)) (failed : Bool) (words : ExplainWords) (old new : O) (end : LinesEnd VerdictCounts) : Type 0 where
  pub asked : Asked R
  pub asks : Asks left failures place text printed words asked
  pub mid : O
  pub explained : PrintedCaptures R VerdictCounts
  pub lines : ExplainsIn left failures contents (asked_form words.json) asked.filter asked.captures.items old mid explained
  pub sums : PrintsTotals contents (line_of (asked_form words.json)) explained.totals mid new end.printed
  pub counts : end.counts ≡ explained.totals.counts
  pub read : end.read ≡ explained.read
  pub broke : (n : ℕ) → end.read ≡ Err (stop n Device) → failed ≡ true

-- ---- Whether a packet is accepted

-- A packet was looked for that the filter accepts, in the captures in order.
pub record Seeks {R : Type 0} (left : R → Option (List ℕ)) (failures : R → ℕ) (place : Places) (text : Texts) (printed : Option (List ℕ)) (failed : Bool) (words : ExplainWords) (end : SoughtEnd) : Type 0 where
  pub asked : Asked R
  pub asks : Asks left failures place text printed words asked
  pub sought : SoughtCaptures R
  pub seeks : SeeksIn left failures (accepts asked.filter) asked.captures.items sought
  pub found : end.found ≡ sought.found
  pub broke : (n : ℕ) → end.found ≡ Err (stop n Device) → failed ≡ true

-- ---- Packets in full

-- after a capture the next one is read if this one could be read so far and all was printed
abbrev pub goes_on_after : Result Bool Fault → Result (Unit {0}) Unprinted → Bool
goes_on_after (Ok found) (Ok all) = true
goes_on_after (Ok found) (Err unprinted) = false
goes_on_after (Err fault) printed = false

-- The packets of a range of places of the capture of this number, of those at these paths, were printed in full. A device's fault comes only
-- if one failed. `among` says what a fault is that is among those that were reported: so is what ended this capture.
abbrev pub FindsOne : {R : Type 0} → (R → Option (List ℕ)) → Bool → ((Report → Type 0) → Type 0) → List (Bor (List ℕ)) → PacketForm → ℕ → AskedFilter → (first last : ℕ) → R → Option (List ℕ) → Option (List ℕ) → FullEnd → Type 0
FindsOne {R = R} left failed among paths form n filter first last from old new end =
    (found : Found R) × FindsRange left from (of_capture form n) filter first last old new found
    × (end.status ≡ greater (printed_status found.printed) (found_status found.read)) × (end.goes_on ≡ goes_on_after found.read found.printed)
    × (found.read ≡ Err Device → failed ≡ true) × TellsFound among paths n first found.read found.printed

-- The same of each capture, of which the first has the number n, in order, while the next one is read. The status is the greatest one.
abbrev pub FindsIn : {R O : Type 0} → (R → Option (List ℕ)) → (O → Option (List ℕ)) → Bool → ((Report → Type 0) → Type 0) → List (Bor (List ℕ)) → PacketForm → AskedFilter → (first last : ℕ) → ℕ → Bool → Status → List R → O → O → Status → Type 0
FindsIn left contents failed among paths form filter first last n false so captures old new status = (new ≡ old) × (status ≡ so)
FindsIn left contents failed among paths form filter first last n true so [] old new status = (new ≡ old) × (status ≡ so)
FindsIn {O = O} left contents failed among paths form filter first last n true so (from ∷ froms) old new status =
    (end : FullEnd) × (mid : O) × FindsOne left failed among paths form n filter first last from (contents old) (contents mid) end
    × FindsIn left contents failed among paths form filter first last (n + 1) end.goes_on (greater so end.status) froms mid new status

pub record PrintsPlaces {R O : Type 0} (left : R → Option (List ℕ)) (failures : R → ℕ) (contents : O → Option (List ℕ)) (place : Places) (text : Texts) (printed : Option (List ℕ)) (failed : Bool) (words : ExplainWords) (places : PlaceRange) (among : (Report → Type 0) → Type 0) (old new : O) (ended : Status) : Type 0 where
  pub asked : Asked R
  pub asks : Asks left failures place text printed words asked
  pub finds : FindsIn left contents failed among words.inputs.items (asked_form words.json) asked.filter places.first places.last 0 true Clean asked.captures.items old new ended

-- they were, or nothing was
abbrev pub PlacesAnswer : {R O : Type 0} → (R → Option (List ℕ)) → (R → ℕ) → (O → Option (List ℕ)) → Places → Texts → Option (List ℕ) → Bool → ExplainWords → PlaceRange → ((Report → Type 0) → Type 0) → ((Report → Type 0) → Type 0) → O → O → Status → Type 0
PlacesAnswer left failures contents place text printed failed words places one among old new ended =
    Refuses place text printed failed words one old new ended
    ⊎ PrintsPlaces left failures contents place text printed failed words places among old new ended

-- ---- The command

-- the lines were printed, or nothing was
abbrev pub LinesAnswer : {R O : Type 0} → (R → Option (List ℕ)) → (R → ℕ) → (O → Option (List ℕ)) → Places → Texts → Option (List ℕ) → Bool → ExplainWords → ((Report → Type 0) → Type 0) → ((Report → Type 0) → Type 0) → O → O → Status → Type 0
LinesAnswer left failures contents place text printed failed words one among old new ended =
    Refuses place text printed failed words one old new ended
    ⊎ ((end : LinesEnd VerdictCounts) × PrintsLines left failures contents place text printed failed words old new end
    × (ended ≡ greater (printed_status end.printed) (stop_status end.read)) × TellsEnd among words.inputs.items end.printed end.read)

-- only the status answers
abbrev pub StatusAnswers : {R O : Type 0} → (R → Option (List ℕ)) → (R → ℕ) → Places → Texts → Option (List ℕ) → Bool → ExplainWords → ((Report → Type 0) → Type 0) → O → O → Status → Type 0
StatusAnswers left failures place text printed failed words one old new ended =
    Refuses place text printed failed words one old new ended
    ⊎ ((end : SoughtEnd) × Seeks left failures place text printed failed words end × (new ≡ old) × (ended ≡ sought_status Clean Negative end.found)
    × TellsStop one words.inputs.items end.found)

-- by whether only the status answers, and whether places are given
abbrev pub AnswersBy : {R O : Type 0} → (R → Option (List ℕ)) → (R → ℕ) → (O → Option (List ℕ)) → Places → Texts → Option (List ℕ) → Bool → ExplainWords → Bool → Option PlaceRange → ((Report → Type 0) → Type 0) → ((Report → Type 0) → Type 0) → O → O → Status → Type 0
AnswersBy left failures contents place text printed failed words true places one among old new ended =
    StatusAnswers left failures place text printed failed words one old new ended
AnswersBy left failures contents place text printed failed words false (Some places) one among old new ended =
    PlacesAnswer left failures contents place text printed failed words places one among old new ended
AnswersBy left failures contents place text printed failed words false None one among old new ended =
    LinesAnswer left failures contents place text printed failed words one among old new ended

-- A call of `bpftap explain`: what standard output had, which was `old`, is now `new`. `one` says what the only fault is that was reported, and
-- `among` what one of several is.
abbrev pub Answers : {R O : Type 0} → (R → Option (List ℕ)) → (R → ℕ) → (O → Option (List ℕ)) → Places → Texts → Option (List ℕ) → Bool → ExplainWords → ((Report → Type 0) → Type 0) → ((Report → Type 0) → Type 0) → O → O → Status → Type 0
Answers left failures contents place text printed failed words one among old new ended =
    AnswersBy left failures contents place text printed failed words words.quiet words.places one among old new ended
