-- From what was read to what was played.
use Rattle.std.proofs.Common.{◌≡◌, ◌≢◌, ℕ, List, Bool, true, false, Option, Some, None, Result, Ok, Err, IfErr, IfOk, map, take, ap, subst}
use Rattle.std.specs.Prelude.{option_copied}
use Rattle.std.specs.Borrow.{Bor}
use Rattle.std.specs.Io.KnownBytes.{Keeps as KeepsBytes}
use Rattle.line_text.specs.declared.form.LineForm.{LineForm}
use Rattle.cli_text.specs.declared.status.Status.{Status}
use Rattle.savefile.specs.declared.fault.Fault.{Fault as RecordFault}
use Rattle.tap.specs.declared.fault.Fault.{Fault}
use Rattle.tap_steps.specs.declared.filters.Spec.{Spec}
use Rattle.tap_steps.specs.declared.step.Step.{Step}
use Rattle.tap_steps.specs.declared.report.Report.{Report}
use Rattle.tap_steps.specs.declared.report.Trace.{Trace}
use Rattle.line_text.specs.Sending.{streams}
use Rattle.cli_store.specs.Files.{Places, Texts}
use Rattle.cli_args.specs.declared.steps.StepsWords.{StepsWords}
use Rattle.cli_steps.specs.declared.outcome.StepsRefusal.{StepsRefusal}
use Rattle.cli_steps.specs.declared.outcome.StepsReport.{StepsReport}
use Rattle.cli_steps.specs.declared.steps.Replayed.{Replayed}
use Rattle.cli_steps.specs.Playing.{HandsOn, is_traced}
use Rattle.cli_steps.specs.Telling.{PrintsPlayed}
use Rattle.cli_steps.specs.FromFiles.{HasTrace, IsDrawn, IsInput, IsNotDrawn, IsReason, IsUndrawn, StepsFiles, detail_for, form_for}
use Rattle.cli_steps.proofs.Beyond.{plays-as-all}
use Rattle.cli_steps.proofs.Captures.{prints_whole}

prints-all : (form : LineForm) (explained traced : Bool) (captures : List (List ℕ)) (all kept : List Spec) (steps : List Step) (before after : Option (List ℕ)) (status : Status) (replayed : Result Replayed Fault)
    → kept ≡ take 65 all → PrintsPlayed form explained traced captures kept steps before after status replayed → PrintsPlayed form explained traced captures all steps before after status replayed
prints-all form explained traced captures all kept steps before after status replayed is p = record {
  played = p.played;
  plays = plays-as-all form explained traced captures all kept steps (streams before None) (streams after None) p.played replayed is p.plays;
  ends = p.ends;
}

handed_trace : (captures : List (List ℕ)) (specs : List Spec) (steps : List Step) (reports : List Report) (record_fault : Option (ℕ × RecordFault)) (trace : Option Trace) →
    HandsOn true captures specs steps reports record_fault trace → trace ≢ None
handed_trace captures specs steps reports record_fault None hands = absurd hands
handed_trace captures specs steps reports record_fault (Some trace) hands = λ none. absurd cc

-- where a picture is asked for, the trace of a replay is handed on
has_trace : (form : LineForm) (explained : Bool) (picture : Option (Bor (List ℕ))) (captures : List (List ℕ)) (specs : List Spec) (steps : List Step) (before after : Option (List ℕ)) (status : Status) (replayed : Result Replayed Fault)
    → PrintsPlayed form explained (is_traced (detail_for explained (option_copied picture))) captures specs steps before after status replayed → HasTrace picture replayed
has_trace form explained None captures specs steps before after status replayed p = tt
has_trace form explained (Some path) captures specs steps before after status (Err fault) p = tt
has_trace form true (Some path) captures specs steps before after status (Ok replayed) p = handed_trace captures specs steps p.plays.0 replayed.record_fault replayed.trace p.plays.2
has_trace form false (Some path) captures specs steps before after status (Ok replayed) p = handed_trace captures specs steps p.plays.0 replayed.record_fault replayed.trace p.plays.2

-- what was read was played, and no file but the picture changed
pub steps_files : (place-old place-mid : Places) (old mid new : Texts) (printed : Option (List ℕ)) (failed : Bool) (denied : Option (List ℕ)) (words : StepsWords) (before after : Option (List ℕ)) (report : StepsReport) →
    place-mid ≡ place-old → mid ≡ old → IsInput place-old old printed words report.input →
    PrintsPlayed (form_for words.json) words.explained (is_traced (detail_for words.explained (option_copied words.picture))) (map (λ c. c.items) report.input.captures.items)
    report.input.plan.specs.items report.input.plan.steps.items before after report.status report.replayed →
    ((at : List ℕ) → IsNotDrawn place-mid words.picture at → new at ≡ mid at) → IfErr report.replayed (λ _. (at : List ℕ) → new at ≡ mid at) →
    (HasTrace words.picture report.replayed → IfOk report.drawn (IsDrawn place-mid mid new words.picture report.replayed)) → IfErr report.drawn (IsUndrawn words.picture failed) →
    StepsFiles place-old old new printed failed denied words before after (Ok report)
steps_files place-old place-mid old mid new printed failed denied words before after report places texts input prints others unplayed drawn undrawn =
    let asked = input.of_listeners in
    let others-here : ((at : List ℕ) → IsNotDrawn place-old words.picture at → new at ≡ old at) =
    subst (λ (pl : Places). (at : List ℕ) → IsNotDrawn pl words.picture at → new at ≡ old at) places
    (subst (λ (m : Texts). (at : List ℕ) → IsNotDrawn place-mid words.picture at → new at ≡ m at) texts others) in
    record {
      others = others-here;
      came_to = record {
        listeners = report.input.listeners.items;
        script = report.input.script.items;
        captures = input.has_captures.0;
        has_listeners = input.has_listeners;
        has_script = input.has_script;
        has_captures = input.has_captures.1;
        apart = input.apart;
        specs = asked.all;
        steps = report.input.plan.steps.items;
        of_listeners = asked.asked;
        of_script = input.of_script;
        plays = prints-all (form_for words.json) words.explained (is_traced (detail_for words.explained (option_copied words.picture))) input.has_captures.0
            asked.all report.input.plan.specs.items report.input.plan.steps.items before after report.status report.replayed asked.first
            (prints_whole _ _ _ input.has_captures.0 _ _ _ before after report.status report.replayed input.has_captures.2 prints);
        unplayed = subst (λ (m : Texts). IfErr report.replayed (λ _. (at : List ℕ) → new at ≡ m at)) texts unplayed;
        drawn = subst (λ (m : Texts). IfOk report.drawn (IsDrawn place-old m new words.picture report.replayed)) texts
            (subst (λ (pl : Places). IfOk report.drawn (IsDrawn pl mid new words.picture report.replayed)) places (drawn (has_trace _ words.explained words.picture _ _ _ before after report.status report.replayed prints)));
        undrawn = undrawn;
      };
    }

-- nothing was played, for a reason
pub refused : (place : Places) (old new : Texts) (printed : Option (List ℕ)) (failed : Bool) (denied : Option (List ℕ)) (words : StepsWords) (before after : Option (List ℕ)) (r : StepsRefusal) →
    new ≡ old → KeepsBytes before after → IsReason place old printed failed denied words r → StepsFiles place old new printed failed denied words before after (Err r)
refused place old new printed failed denied words before after r texts nothing is =
    let same : (at : List ℕ) → new at ≡ old at = λ at. ap (λ (t : Texts). t at) texts in
    record { others = λ at other. same at; came_to = (is, same, nothing) }
