-- What `bpftap steps` reports on standard error. Read it from the last definition up.
use Rattle.std.specs.Prelude.{◌≡◌, ◌≢◌, ℕ, Bool, List, Option, Some, None, Result, Ok, Err, codes}
use Rattle.std.specs.Borrow.{Bor}
use Rattle.std.specs.IoError.{error_kind}
use Rattle.std.specs.declared.io.Error.{Error}
use Rattle.std.specs.declared.io.ErrorKind.TheVariants.{BrokenPipe}
use Rattle.filtergen_facts.specs.Faults.{refusal_text}
use Rattle.filterlang.specs.Faults.{fault_name as expression_name, fault_place as expression_place}
use Rattle.listener.specs.Faults.{open_fault_text}
use Rattle.tap.specs.declared.fault.Fault.{Fault}
use Rattle.tap.specs.declared.fault.Fault.TheVariants.{TooMany, NoListener, Capture, Expression, Compile, Open, NoMemory}
use Rattle.line_text.specs.declared.fault.LineFault.{LineFault}
use Rattle.line_text.specs.declared.form.LineForm.{LineForm}
use Rattle.line_text.specs.Faults.{fault_line, line_fault_name}
use Rattle.fault_report.specs.Captures.{IsNthCaptureFault}
use Rattle.fault_report.specs.Reports.{IsDevice, IsNamed, IsNoMemory, IsPlaced, TellsAmong, TellsMore, TellsOne}
use Rattle.fault_report.specs.Words.{IsPart, place_word}
use Rattle.fault_report.specs.declared.report.Report.{Report}
use Rattle.fault_report.specs.declared.report.Subject.TheVariants.{File, StandardOutput}
use Rattle.cli_text.specs.declared.status.Status.{Status}
use Rattle.cli_text.specs.declared.status.Status.TheVariants.{Failed}
use Rattle.cli_files.specs.Paths.{IsPathReport}
use Rattle.cli_files.specs.Reading.{IsFileReport, IsLongTextReport}
use Rattle.cli_args.specs.declared.steps.StepsWords.{StepsWords}
use Rattle.cli_steps.specs.declared.outcome.PictureFault.{PictureFault}
use Rattle.cli_steps.specs.declared.outcome.PictureFault.TheVariants as picture
use Rattle.cli_steps.specs.declared.outcome.StepsRefusal.{StepsRefusal}
use Rattle.cli_steps.specs.declared.outcome.StepsRefusal.TheVariants as refusal
use Rattle.cli_steps.specs.declared.outcome.StepsReport.{StepsReport}
use Rattle.cli_steps.specs.declared.steps.Replayed.{Replayed}

-- ---- Why nothing was played

-- the first bad line of LISTENERS or of SCRIPT, named after its file; or memory was refused
abbrev pub IsLineReport : LineFault → Report → Type 0
IsLineReport fault report = IsPlaced (line_fault_name fault) (fault_line fault) None report

-- there are too many listeners or captures
abbrev pub IsTooManyReport : Report → Type 0
IsTooManyReport report = IsNamed (codes "TooMany") None report

-- why nothing was played
abbrev pub IsRefusalReport : StepsRefusal → Report → Type 0
IsRefusalReport (refusal.TextTooLong path) report = IsLongTextReport report
IsRefusalReport (refusal.Line listeners script fault) report = IsLineReport fault report
IsRefusalReport refusal.TooMany report = IsTooManyReport report
IsRefusalReport (refusal.Paths fault) report = IsPathReport fault report
IsRefusalReport (refusal.File path error) report = IsFileReport error path report
IsRefusalReport refusal.NoMemory report = IsNoMemory report

-- ---- What became of a replay

-- the listener of this number has this fault, perhaps with a place in its expression
abbrev pub IsListenerReport : List ℕ → ℕ → List ℕ → Option ℕ → Report → Type 0
IsListenerReport name listener fault place report =
    (report.name.now ≡ name) × IsPart listener fault (place_word place) report.words × (report.subject ≡ None)

-- a fault of a replay of the captures at these paths; that of a capture is about its path
abbrev pub IsReplayReport : List (Bor (List ℕ)) → Fault → Report → Type 0
IsReplayReport paths TooMany report = IsTooManyReport report
IsReplayReport paths (NoListener step) report = IsPlaced (codes "NoListener") (Some step) None report
IsReplayReport paths (Capture capture fault) report = IsNthCaptureFault fault capture paths report
IsReplayReport paths (Expression listener fault) report = IsListenerReport (codes "Expression") listener (expression_name fault) (expression_place fault) report
IsReplayReport paths (Compile listener fault) report = IsListenerReport (codes "Compile") listener (refusal_text fault) None report
IsReplayReport paths (Open listener fault) report = IsListenerReport (codes "Open") listener (open_fault_text fault) None report
IsReplayReport paths NoMemory report = IsNoMemory report

-- there was no replay, for this fault; or a capture ended with this record fault
abbrev pub IsEnd : Result Replayed Fault → Fault → Type 0
IsEnd (Err ended) fault = ended ≡ fault
IsEnd (Ok replayed) (Capture capture fault) = replayed.record_fault ≡ Some (capture, fault)
IsEnd (Ok replayed) other = ⊥

-- Standard output failed, and not since nobody reads it any more: `noted` is why a write to it first failed, if that is known.
abbrev pub IsOutputFault : Status → Option Error → Type 0
IsOutputFault ended None = ended ≡ Failed
IsOutputFault ended (Some error) = (ended ≡ Failed) × (error_kind error ≢ BrokenPipe)

-- ---- The picture

-- why the picture at this path was not drawn whole
abbrev pub IsPictureReport : Bor (List ℕ) → PictureFault → Report → Type 0
IsPictureReport path picture.NoMemory report = IsNoMemory report
IsPictureReport path (picture.File None) report = IsDevice (File path) report
IsPictureReport path (picture.File (Some error)) report = IsFileReport error path report

-- ---- The command

-- A script was played. The fault that it ended with, if there is one, is among what was reported, and so is that standard output failed,
-- and why the picture that was asked for was not drawn whole.
pub record TellsPlayed {E : Type 0} (hints failed : E → Bool) (contents : E → Option (List ℕ)) (form : E → LineForm) (words : StepsWords) (noted : Option Error) (report : StepsReport) (old new : E) : Type 0 where
  pub ended : (fault : Fault) → IsEnd report.replayed fault → TellsAmong hints failed contents form (IsReplayReport words.inputs.items fault) old new
  pub unprinted : IsOutputFault report.status noted → TellsAmong hints failed contents form (IsDevice StandardOutput) old new
  pub undrawn : (path : Bor (List ℕ)) (fault : PictureFault) → words.picture ≡ Some path → report.drawn ≡ Err fault → TellsAmong hints failed contents form (IsPictureReport path fault) old new
  pub more : TellsMore hints failed contents form old new

-- what was reported of a call: of a refusal the reason, and nothing else
abbrev pub TellsSteps : {E : Type 0} → (E → Bool) → (E → Bool) → (E → Option (List ℕ)) → (E → LineForm) → StepsWords → Option Error → Result StepsReport StepsRefusal → E → E → Type 0
TellsSteps hints failed contents form words noted (Ok report) old new = TellsPlayed hints failed contents form words noted report old new
TellsSteps hints failed contents form words noted (Err reason) old new = TellsOne hints failed contents form (IsRefusalReport reason) old new
