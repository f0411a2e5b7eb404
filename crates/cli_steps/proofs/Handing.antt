-- What was printed is handed on.
use Rattle.std.proofs.Common.{◌≡◌, ℕ, ◌⊎◌, inl, inr, Bool, List, [], ◌++◌, Option, None, Result, Ok, Err, refl, sym, ◌∙◌}
use Rattle.std.proofs.lemmas.List.{append-nil}
use Rattle.std.proofs.KnownBytes.{Appends-kept, Keeps-trans}
use Rattle.std.specs.Io.KnownBytes.{Keeps}
use Rattle.savefile.specs.declared.fault.Fault.{Fault as RecordFault}
use Rattle.line_text.specs.declared.form.LineForm.{LineForm}
use Rattle.line_text.specs.Sending.{Takes, TakesPart, streams}
use Rattle.line_text.proofs.Taking.{TakesPart-none}
use Rattle.cli_text.specs.declared.report.Outcome.{Outcome}
use Rattle.cli_text.specs.declared.status.Status.{Status}
use Rattle.cli_text.specs.declared.status.Status.TheVariants.{Failed, Refused}
use Rattle.tap.specs.declared.fault.Fault.{Fault}
use Rattle.tap_steps.specs.declared.filters.Spec.{Spec}
use Rattle.tap_steps.specs.declared.report.Report.{Report}
use Rattle.tap_steps.specs.declared.step.Step.{Step}
use Rattle.cli_steps.specs.declared.steps.Replayed.{Replayed}
use Rattle.cli_steps.specs.Playing.{IsPrintStatus, Reported, failed_output_line, record_fault_line}
use Rattle.cli_steps.specs.Telling.{PrintsPlayed}

part-kept : (old mid new : Option (List ℕ)) (text : List ℕ) → TakesPart old mid text → Keeps mid new → TakesPart old new text
part-kept old mid new text p kept = record { part = p.part; begins = p.begins; appends = Appends-kept old mid new p.part p.appends kept }

prints-on : (old mid new : Option (List ℕ)) (text : List ℕ) (status : Status) → IsPrintStatus old mid text status → Keeps mid new → IsPrintStatus old new text status
prints-on old mid new text status (inl (is, taken)) kept = inl (is, Appends-kept old mid new text taken kept)
prints-on old mid new text status (inr (is, part)) kept = inr (is, part-kept old mid new text part kept)

-- a text that was taken whole, and then the writer failed
prints-failed : (old mid new : Option (List ℕ)) (text : List ℕ) (status : Status) → IsPrintStatus old mid text status → Keeps mid new → IsPrintStatus old new text Failed
prints-failed old mid new text status (inl (is, taken)) kept =
    inr (refl, record { part = text; begins = ([], sym (append-nil text)); appends = Appends-kept old mid new text taken kept })
prints-failed old mid new text status (inr (is, part)) kept = inr (refl, part-kept old mid new text part kept)

-- of what is reported to a writer that knows nothing
unknown : {A E : Type 0} (told : Result A E) (text : List ℕ) → Takes None None told text
unknown (Ok done) text = tt
unknown (Err error) text = TakesPart-none None text

abbrev failing : Outcome → Outcome
failing outcome = record { status = Failed; told = outcome.told }

module _ (form : LineForm) (explained : Bool) (captures : List (List ℕ)) (specs : List Spec) (steps : List Step) (old mid new : Option (List ℕ)) (kept : Keeps mid new) where
  reported-on : (outcome : Outcome) (reports : List Report) (record_fault : Option (ℕ × RecordFault)) → Reported form explained captures specs steps (streams old None) (streams mid None) outcome reports record_fault
      → Reported form explained captures specs steps (streams old None) (streams new None) outcome reports record_fault
  reported-on outcome reports record_fault r = record {
    playlist = r.playlist;
    replays = r.replays;
    none_stands = r.none_stands;
    answers_text = r.answers_text;
    explains = r.explains;
    print_status = r.print_status;
    prints = prints-on old mid new _ r.print_status r.prints kept;
    tells = r.tells;
    greatest = r.greatest;
  }

  reported-failed : (outcome : Outcome) (reports : List Report) (record_fault : Option (ℕ × RecordFault)) → Reported form explained captures specs steps (streams old None) (streams mid None) outcome reports record_fault
      → Reported form explained captures specs steps (streams old None) (streams new None) (failing outcome) reports record_fault
  reported-failed outcome reports record_fault r = record {
    playlist = r.playlist;
    replays = r.replays;
    none_stands = r.none_stands;
    answers_text = r.answers_text;
    explains = r.explains;
    print_status = Failed;
    prints = prints-failed old mid new _ r.print_status r.prints kept;
    tells = unknown outcome.told (failed_output_line Failed ++ record_fault_line record_fault);
    greatest = refl;
  }

  -- what was played was printed, and then handed on, or that failed
  pub handed : (traced : Bool) (printed status : Status) (replayed : Result Replayed Fault) → PrintsPlayed form explained traced captures specs steps old mid printed replayed →
      (status ≡ printed) ⊎ ((status ≡ Failed) × (printed ≡ Refused → ⊥)) → PrintsPlayed form explained traced captures specs steps old new status replayed
  handed traced printed status (Ok replayed) p (inl same) = record {
    played = p.played;
    plays = (p.plays.0, reported-on p.played p.plays.0 replayed.record_fault p.plays.1, p.plays.2);
    ends = same ∙ p.ends;
  }
  handed traced printed status (Ok replayed) p (inr (failed, played)) = record {
    played = failing p.played;
    plays = (p.plays.0, reported-failed p.played p.plays.0 replayed.record_fault p.plays.1, p.plays.2);
    ends = failed;
  }
  handed traced printed status (Err fault) p (inl same) = record {
    played = p.played;
    plays = record { first = p.plays.first; nothing = Keeps-trans old mid new p.plays.nothing kept; tells = p.plays.tells; refused = p.plays.refused };
    ends = same ∙ p.ends;
  }
  handed traced printed status (Err fault) p (inr (failed, played)) = absurd (played (p.ends ∙ p.plays.refused))
