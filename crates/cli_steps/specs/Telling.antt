-- What `bpftap steps` prints of what was played.
use Rattle.std.specs.Prelude.{◌≡◌, Bool, List, ℕ, Option, None, Result}
use Rattle.line_text.specs.declared.form.LineForm.{LineForm}
use Rattle.cli_text.specs.declared.report.Outcome.{Outcome}
use Rattle.cli_text.specs.declared.status.Status.{Status}
use Rattle.line_text.specs.Sending.{streams}
use Rattle.cli_steps.specs.declared.steps.Replayed.{Replayed}
use Rattle.cli_steps.specs.Playing.{PlaysAs}
use Rattle.tap.specs.declared.fault.Fault.{Fault}
use Rattle.tap_steps.specs.declared.filters.Spec.{Spec}
use Rattle.tap_steps.specs.declared.step.Step.{Step}

-- Steps were played, and printed to what took `before` before, and `after` now. What that reports went elsewhere.
pub record PrintsPlayed (form : LineForm) (explained traced : Bool) (captures : List (List ℕ)) (specs : List Spec) (steps : List Step) (before after : Option (List ℕ))
    (status : Status) (replayed : Result Replayed Fault) : Type 0 where
  pub played : Outcome
  pub plays : PlaysAs form explained traced captures specs steps (streams before None) (streams after None) played replayed
  pub ends : status ≡ played.status
