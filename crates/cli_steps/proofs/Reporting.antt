-- What is reported of a script that was played, one thing after the other.
use Rattle.std.proofs.Common.{◌≡◌, ℕ, Bool, false, List, Option, Some, Ok, Err, subst}
use Rattle.std.specs.Borrow.{Bor}
use Rattle.std.specs.declared.io.Error.{Error}
use Rattle.savefile.specs.declared.fault.Fault.{Fault as RecordFault}
use Rattle.tap.specs.declared.fault.Fault.{Fault}
use Rattle.tap.specs.declared.fault.Fault.TheVariants.{TooMany, NoListener, Capture, Expression, Compile, Open, NoMemory}
use Rattle.line_text.specs.declared.form.LineForm.{LineForm}
use Rattle.fault_report.specs.Reports.{IsDevice, TellsAmong, TellsMore, TellsOne}
use Rattle.fault_report.specs.declared.report.Subject.TheVariants.{StandardOutput}
use Rattle.fault_report.proofs.Telling.{among-more, among-quiet, more-among, more-more, more-none, more-quiet, one-among}
use Rattle.cli_args.specs.declared.steps.StepsWords.{StepsWords}
use Rattle.cli_steps.specs.declared.outcome.PictureFault.{PictureFault}
use Rattle.cli_steps.specs.declared.outcome.StepsReport.{StepsReport}
use Rattle.cli_steps.specs.declared.steps.Replayed.{Replayed}
use Rattle.cli_steps.specs.Reports.{IsEnd, IsOutputFault, IsPictureReport, IsReplayReport, TellsPlayed}

module _ {E : Type 0} (hints failed : E → Bool) (contents : E → Option (List ℕ)) (form : E → LineForm) where
  -- the record fault of a replay is reported after what comes of its printing
  pub ended-after : (paths : List (Bor (List ℕ))) (replayed : Replayed) (a b c : E) → TellsMore hints failed contents form a b →
      ((capture : ℕ) (fault : RecordFault) → replayed.record_fault ≡ Some (capture, fault) → TellsOne hints failed contents form (IsReplayReport paths (Capture capture fault)) b c) →
      (fault : Fault) → IsEnd (Ok replayed) fault → TellsAmong hints failed contents form (IsReplayReport paths fault) a c
  ended-after paths replayed a b c more told TooMany none = absurd none
  ended-after paths replayed a b c more told (NoListener step) none = absurd none
  ended-after paths replayed a b c more told (Capture capture fault) is = more-among hints failed contents form (IsReplayReport paths (Capture capture fault)) a b c more
      (one-among hints failed contents form (IsReplayReport paths (Capture capture fault)) b c (told capture fault is))
  ended-after paths replayed a b c more told (Expression listener fault) none = absurd none
  ended-after paths replayed a b c more told (Compile listener fault) none = absurd none
  ended-after paths replayed a b c more told (Open listener fault) none = absurd none
  ended-after paths replayed a b c more told NoMemory none = absurd none

  -- so is why there is no replay
  pub refused-after : (paths : List (Bor (List ℕ))) (ended : Fault) (a b c : E) → TellsMore hints failed contents form a b → TellsAmong hints failed contents form (IsReplayReport paths ended) b c →
      (fault : Fault) → IsEnd (Err ended) fault → TellsAmong hints failed contents form (IsReplayReport paths fault) a c
  refused-after paths ended a b c more told fault is = more-among hints failed contents form (IsReplayReport paths fault) a b c more
      (subst (λ (f : Fault). TellsAmong hints failed contents form (IsReplayReport paths f) b c) is told)

  -- hints that are not wanted are nothing
  quiet-more : (a b : E) → (hints a ≡ false → b ≡ a) → TellsMore hints failed contents form a b
  quiet-more a b quiet = more-quiet hints failed contents form a a b (more-none hints failed contents form a) quiet

  -- the replay, two hints, the picture and a hint
  pub played : (words : StepsWords) (noted : Option Error) (report : StepsReport) (drawn : Bor (List ℕ)) (a b c d e f : E) →
      ((fault : Fault) → IsEnd report.replayed fault → TellsAmong hints failed contents form (IsReplayReport words.inputs.items fault) a b) → (IsOutputFault report.status noted → TellsAmong hints failed contents form (IsDevice StandardOutput) a b) → TellsMore hints failed contents form a b →
      (hints b ≡ false → c ≡ b) → (hints c ≡ false → d ≡ c) →
      ((fault : PictureFault) → report.drawn ≡ Err fault → TellsOne hints failed contents form (IsPictureReport drawn fault) d e) → TellsMore hints failed contents form d e →
      (hints e ≡ false → f ≡ e) → ((path : Bor (List ℕ)) → words.picture ≡ Some path → drawn ≡ path) → TellsPlayed hints failed contents form words noted report a f
  played words noted report drawn a b c d e f ended unprinted first quiet-b quiet-c undrawn second quiet-e here =
      let between : TellsMore hints failed contents form b d = more-more hints failed contents form b c d (quiet-more b c quiet-b) (quiet-more c d quiet-c) in
      let before : TellsMore hints failed contents form a d = more-more hints failed contents form a b d first between in
      let after : TellsMore hints failed contents form d f = more-more hints failed contents form d e f second (quiet-more e f quiet-e) in
      record {
        ended = λ fault is. among-more hints failed contents form (IsReplayReport words.inputs.items fault) a b f (ended fault is) (more-more hints failed contents form b d f between after);
        unprinted = λ fails. among-more hints failed contents form (IsDevice StandardOutput) a b f (unprinted fails) (more-more hints failed contents form b d f between after);
        undrawn = λ path fault asked is. more-among hints failed contents form (IsPictureReport path fault) a d f before
            (among-quiet hints failed contents form (IsPictureReport path fault) d e f
            (one-among hints failed contents form (IsPictureReport path fault) d e
            (subst (λ (p : Bor (List ℕ)). TellsOne hints failed contents form (IsPictureReport p fault) d e) (here path asked) (undrawn fault is))) quiet-e);
        more = more-more hints failed contents form a d f before after;
      }
