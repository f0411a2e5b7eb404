-- What is printed and reported of steps that are played, and the exit status.
use Rattle.std.specs.Prelude.{◌≡◌, ℕ, ◌⊎◌, Bool, true, false, List, [], ◌++◌, Option, Some, None, Result, Ok, Err, ⊤, map, codes}
use Rattle.std.specs.Io.KnownBytes.{Appends, Keeps}
use Rattle.savefile.specs.declared.fault.Fault.{Fault as RecordFault}
use Rattle.tap.specs.declared.fault.Fault.{Fault}
use Rattle.tap.specs.declared.fault.Fault.TheVariants.{Capture}
use Rattle.tap_steps.specs.declared.answer.Answered.{Answered}
use Rattle.tap_steps.specs.declared.filters.Spec.{Spec}
use Rattle.tap_steps.specs.declared.step.Step.{Step}
use Rattle.tap_steps.specs.declared.playlist.PlacedPacket.{PlacedPacket}
use Rattle.tap_steps.specs.declared.report.Report.{Report}
use Rattle.tap_steps.specs.declared.report.Trace.{Trace}
use Rattle.tap.specs.Answers.{Traces}
use Rattle.tap.specs.Faults.{fault_text}
use Rattle.tap.specs.Filters.{AreExpressionsOf}
use Rattle.tap.specs.Headline.{Replays}
use Rattle.tap.specs.Refusals.{IsFirst, NoneStands}
use Rattle.line_text.specs.declared.form.LineForm.{LineForm}
use Rattle.cli_text.specs.declared.status.Status.{Status}
use Rattle.cli_text.specs.declared.status.Status.TheVariants as status
use Rattle.cli_text.specs.declared.report.Outcome.{Outcome}
use Rattle.cli_text.specs.Status.{greater}
use Rattle.line_text.specs.Sending.{Takes, TakesPart, Streams}
use Rattle.cli_text.specs.Telling.{told_line}
use Rattle.cli_steps.specs.declared.steps.Detail.{Detail}
use Rattle.cli_steps.specs.declared.steps.Detail.TheVariants as detail
use Rattle.cli_steps.specs.declared.steps.Replayed.{Replayed}
use Rattle.tap_text.specs.Answers.{cursors_of, answers_from, ArePrintedAnswers}
use Rattle.tap_text.specs.Printed.{reports_in}

-- How the printing of a text ended, as a status: the writer took the text, or it failed, and took a prefix of it.
abbrev pub IsPrintStatus : Option (List ℕ) → Option (List ℕ) → List ℕ → Status → Type 0
IsPrintStatus old new text print_status = ((print_status ≡ status.Clean) × Appends old new text) ⊎ ((print_status ≡ status.Failed) × TakesPart old new text)

-- the status of a capture that ended with a record fault
abbrev pub record_fault_status : Option (ℕ × RecordFault) → Status
record_fault_status None = status.Clean
record_fault_status (Some record_fault) = status.Damaged

-- All that was to be printed was printed: nothing failed, or only a capture ended with a record fault.
abbrev pub IsPrintedWhole : Status → Type 0
IsPrintedWhole status.Clean = ⊤
IsPrintedWhole status.Damaged = ⊤
IsPrintedWhole other = ⊥

-- the line of standard output that failed
abbrev pub failed_output_line : Status → List ℕ
failed_output_line status.Clean = []
failed_output_line other = told_line (codes "Device standard output")

-- the line of a capture that ended with a record fault
abbrev pub record_fault_line : Option (ℕ × RecordFault) → List ℕ
record_fault_line None = []
record_fault_line (Some record_fault) = told_line (fault_text (Capture record_fault.0 record_fault.1))

-- What is printed before the reports: if answers are explained, the legal answers of all listeners over this playlist, each with its
-- reason, and else nothing.
abbrev pub IsAnswersText : LineForm → Bool → List (List ℕ) → List Spec → List Step → List PlacedPacket → Option (ℕ × RecordFault) → List ℕ → Type 0
IsAnswersText form true captures specs steps playlist record_fault text =
    (answers : List (List Answered)) × Traces captures specs steps playlist record_fault answers
    × ArePrintedAnswers form specs steps playlist answers text
IsAnswersText form false captures specs steps playlist record_fault text = text ≡ []

-- A replay gave these reports, and this record fault of a capture, and no fault applies. The reports were printed, after the answers
-- if these are explained; the record fault was reported; the status is the greatest that applies.
pub record Reported (form : LineForm) (explained : Bool) (captures : List (List ℕ)) (specs : List Spec) (steps : List Step) (old new : Streams) (outcome : Outcome)
    (reports : List Report) (record_fault : Option (ℕ × RecordFault)) : Type 0 where
  pub playlist : List PlacedPacket
  pub replays : Replays captures specs steps playlist record_fault reports
  pub none_stands : NoneStands captures specs steps
  pub answers_text : List ℕ
  pub explains : IsAnswersText form explained captures specs steps playlist record_fault answers_text
  pub print_status : Status
  pub prints : IsPrintStatus old.out new.out (answers_text ++ reports_in form reports) print_status
  pub tells : Takes old.err new.err outcome.told (failed_output_line print_status ++ record_fault_line record_fault)
  pub greatest : outcome.status ≡ greater print_status (record_fault_status record_fault)

-- There is no replay: this fault, the first that applies, was reported, and nothing was printed.
pub record Refused (captures : List (List ℕ)) (specs : List Spec) (steps : List Step) (old new : Streams) (outcome : Outcome) (fault : Fault) : Type 0 where
  pub first : IsFirst captures specs steps fault
  pub nothing : Keeps old.out new.out
  pub tells : Takes old.err new.err outcome.told (told_line (fault_text fault))
  pub refused : outcome.status ≡ status.Refused

abbrev pub Plays : LineForm → Bool → List (List ℕ) → List Spec → List Step → Streams → Streams → Outcome → Type 0
Plays form explained captures specs steps old new outcome =
    ((reports : List Report) × (record_fault : Option (ℕ × RecordFault)) × Reported form explained captures specs steps old new outcome reports record_fault)
    ⊎ ((fault : Fault) × Refused captures specs steps old new outcome fault)

-- ---- What is handed on

-- the answers are printed
abbrev pub is_explained : Detail → Bool
is_explained detail.Answers = true
is_explained other = false

-- the trace is handed on
abbrev pub is_traced : Detail → Bool
is_traced detail.Reports = false
is_traced other = true

-- what is printed of a trace before its reports
abbrev pub trace_text : LineForm → Bool → List Spec → List Step → Trace → List ℕ
trace_text form true specs steps trace =
    answers_from form 1 steps trace.playlist.items (cursors_of specs trace.expressions.items (map (λ a. a.items) trace.answers.items))
trace_text form false specs steps trace = []

-- This is the trace of a replay that gave these reports and this record fault: its answers are the legal ones over its playlist, and
-- its expressions those that the filters read as.
pub record IsTraceOf (captures : List (List ℕ)) (specs : List Spec) (steps : List Step) (reports : List Report) (record_fault : Option (ℕ × RecordFault)) (trace : Trace) : Type 0 where
  pub same_reports : trace.reports.items ≡ reports
  pub same_fault : trace.record_fault ≡ record_fault
  pub replays : Replays captures specs steps trace.playlist.items record_fault reports
  pub answers : Traces captures specs steps trace.playlist.items record_fault (map (λ a. a.items) trace.answers.items)
  pub expressions : AreExpressionsOf specs trace.expressions.items

-- what is handed on of a replay: its trace, if it was wanted
abbrev pub HandsOn : Bool → List (List ℕ) → List Spec → List Step → List Report → Option (ℕ × RecordFault) → Option Trace → Type 0
HandsOn false captures specs steps reports record_fault trace = trace ≡ None
HandsOn true captures specs steps reports record_fault None = ⊥
HandsOn true captures specs steps reports record_fault (Some trace) = IsTraceOf captures specs steps reports record_fault trace

-- what was played, and what is handed on of it: the record fault or the fault that was reported, and the trace that was printed
abbrev pub PlaysAs : LineForm → Bool → Bool → List (List ℕ) → List Spec → List Step → Streams → Streams → Outcome → Result Replayed Fault → Type 0
PlaysAs form explained traced captures specs steps old new outcome (Ok replayed) =
    (reports : List Report) × Reported form explained captures specs steps old new outcome reports replayed.record_fault
    × HandsOn traced captures specs steps reports replayed.record_fault replayed.trace
PlaysAs form explained traced captures specs steps old new outcome (Err fault) = Refused captures specs steps old new outcome fault
