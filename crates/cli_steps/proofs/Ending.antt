-- How playing ends.
use Rattle.std.proofs.Common.{◌≡◌, ℕ, inl, inr, Bool, true, false, List, ◌++◌, Option, Result, Ok, Err, map, refl}
use Rattle.std.specs.Prelude.{Vec}
use Rattle.std.specs.declared.alloc.Global.{Global}
use Rattle.savefile.specs.declared.fault.Fault.{Fault as RecordFault}
use Rattle.line_text.specs.declared.form.LineForm.{LineForm}
use Rattle.cli_text.specs.declared.report.Outcome.{Outcome}
use Rattle.line_text.specs.Sending.{Takes, Streams}
use Rattle.cli_text.specs.Status.{greater}
use Rattle.cli_text.specs.Telling.{print_status_of}
use Rattle.tap_steps.specs.declared.answer.Answered.{Answered}
use Rattle.tap_steps.specs.declared.filters.Spec.{Spec}
use Rattle.tap_steps.specs.declared.step.Step.{Step}
use Rattle.tap_steps.specs.declared.playlist.PlacedPacket.{PlacedPacket}
use Rattle.tap_steps.specs.declared.report.Report.{Report}
use Rattle.tap_steps.specs.declared.report.Trace.{Trace}
use Rattle.tap.specs.declared.fault.Fault.{Fault}
use Rattle.tap.specs.Answers.{Traces}
use Rattle.tap.specs.Filters.{AreExpressionsOf}
use Rattle.tap.specs.Headline.{Replays}
use Rattle.tap.specs.Refusals.{NoneStands}
use Rattle.cli_steps.specs.declared.steps.Replayed.{Replayed}
use Rattle.tap_text.specs.Printed.{reports_in}
use Rattle.cli_steps.specs.Playing.{IsAnswersText, IsPrintStatus, record_fault_status, failed_output_line, record_fault_line, Reported, Plays, PlaysAs, trace_text}

-- what is printed of a trace before its reports are the legal answers, if they are explained
pub explains : (form : LineForm) (explained : Bool) (captures : List (List ℕ)) (specs : List Spec) (steps : List Step) (trace : Trace) →
    Traces captures specs steps trace.playlist.items trace.record_fault (map (λ (a : Vec Answered Global). a.items) trace.answers.items) →
    AreExpressionsOf specs trace.expressions.items →
    IsAnswersText form explained captures specs steps trace.playlist.items trace.record_fault (trace_text form explained specs steps trace)
explains form true captures specs steps trace traces read = (
  map (λ (a : Vec Answered Global). a.items) trace.answers.items,
  traces,
  record { expressions = trace.expressions.items; read = read; is = refl },
)
explains form false captures specs steps trace traces read = refl

-- the status of a printing
print-status : {A E : Type 0} (old new : Option (List ℕ)) (text : List ℕ) (r : Result A E) → Takes old new r text → IsPrintStatus old new text (print_status_of r)
print-status old new text (Ok x) taken = inl (refl, taken)
print-status old new text (Err e) taken = inr (refl, taken)

pub Reported-of : {A E : Type 0} (form : LineForm) (explained : Bool) (captures : List (List ℕ)) (specs : List Spec) (steps : List Step) (old new : Streams) (outcome : Outcome) (reports : List Report) (record_fault : Option (ℕ × RecordFault)) (playlist : List PlacedPacket) (r : Result A E)
    (text : List ℕ) → NoneStands captures specs steps → Replays captures specs steps playlist record_fault reports → IsAnswersText form explained captures specs steps playlist record_fault text →
    Takes old.out new.out r (text ++ reports_in form reports) →
    Takes old.err new.err outcome.told (failed_output_line (print_status_of r) ++ record_fault_line record_fault) → outcome.status ≡ greater (print_status_of r) (record_fault_status record_fault) →
    Reported form explained captures specs steps old new outcome reports record_fault
Reported-of form explained captures specs steps old new outcome reports record_fault playlist r text none_stands replays explains taken tells greatest = record {
  playlist = playlist;
  replays = replays;
  none_stands = none_stands;
  answers_text = text;
  explains = explains;
  print_status = print_status_of r;
  prints = print-status old.out new.out (text ++ reports_in form reports) r taken;
  tells = tells;
  greatest = greatest;
}

-- what is played and handed on is played
pub plays-of : (form : LineForm) (explained traced : Bool) (captures : List (List ℕ)) (specs : List Spec) (steps : List Step) (old new : Streams) (outcome : Outcome) (replayed : Result Replayed Fault) →
    PlaysAs form explained traced captures specs steps old new outcome replayed → Plays form explained captures specs steps old new outcome
plays-of form explained traced captures specs steps old new outcome (Ok replayed) plays = inl (plays.0, replayed.record_fault, plays.1)
plays-of form explained traced captures specs steps old new outcome (Err fault) plays = inr (fault, plays)
