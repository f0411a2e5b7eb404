-- `steps`, from the bytes of its files to what is printed and reported.
use Rattle.std.specs.Prelude.{◌≡◌, ℕ, ◌⊎◌, false, List}
use Rattle.std.specs.Io.KnownBytes.{Keeps}
use Rattle.tap_steps.specs.declared.filters.Spec.{Spec}
use Rattle.tap_steps.specs.declared.step.Step.{Step}
use Rattle.line_text.specs.declared.form.LineForm.{LineForm}
use Rattle.line_text.specs.declared.fault.LineFault.{LineFault}
use Rattle.line_text.specs.Files.{IsFileOf}
use Rattle.cli_text.specs.declared.status.Status.TheVariants as status
use Rattle.cli_text.specs.declared.report.Outcome.{Outcome}
use Rattle.cli_text.specs.Status.{code}
use Rattle.line_text.specs.Sending.{Takes, Streams}
use Rattle.cli_text.specs.Telling.{told_line}
use Rattle.line_text.specs.Faults.{line_fault_text}
use Rattle.tap_text.specs.Listeners.{IsListenerLine}
use Rattle.tap_text.specs.Script.{IsStepLine}
use Rattle.tap_text.specs.Plans.{IsRefusedFiles}
use Rattle.cli_steps.specs.Playing.{Plays}

-- The files say listeners and steps, and these were played.
pub record Played (form : LineForm) (listeners script : List ℕ) (captures : List (List ℕ)) (old new : Streams) (outcome : Outcome) : Type 0 where
  pub specs : List Spec
  pub steps : List Step
  pub of_listeners : IsFileOf IsListenerLine listeners specs
  pub of_script : IsFileOf IsStepLine script steps
  pub plays : Plays form false captures specs steps old new outcome

-- The files are refused: the fault of their lines was reported, and nothing was printed.
pub record Unread (listeners script : List ℕ) (old new : Streams) (outcome : Outcome) : Type 0 where
  pub fault : LineFault
  pub refused : IsRefusedFiles listeners script fault
  pub nothing : Keeps old.out new.out
  pub tells : Takes old.err new.err outcome.told (told_line (line_fault_text fault))
  pub one : outcome.status ≡ status.Refused

abbrev pub Steps : LineForm → List ℕ → List ℕ → List (List ℕ) → Streams → Streams → Outcome → Type 0
Steps form listeners script captures old new outcome = Played form listeners script captures old new outcome ⊎ Unread listeners script old new outcome

-- the same, of which only the exit status is known, as a number
abbrev pub StepsTo : LineForm → List ℕ → List ℕ → List (List ℕ) → Streams → Streams → ℕ → Type 0
StepsTo form listeners script captures old new number = (outcome : Outcome) × Steps form listeners script captures old new outcome × (number ≡ code outcome.status)
