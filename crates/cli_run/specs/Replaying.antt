-- What is reported of a replay, and its exit status.
use Rattle.std.specs.Prelude.{ℕ, ◌≡◌, Option, List, ◌++◌, fold, Result}
use Rattle.std.specs.declared.io.Error.{Error}
use Rattle.replay_types.specs.declared.report.InterfaceEnd.{InterfaceEnd}
use Rattle.replay_types.specs.declared.report.InterfaceEnd.TheVariants as interface
use Rattle.replay_types.specs.declared.report.InterfaceReport.{InterfaceReport}
use Rattle.replay_types.specs.declared.report.ListenerReport.{ListenerReport}
use Rattle.replay_types.specs.declared.report.TaskEnd.{TaskEnd}
use Rattle.replay_types.specs.declared.report.TaskEnd.TheVariants as task
use Rattle.line_text.specs.declared.form.LineForm.{LineForm}
use Rattle.cli_text.specs.declared.report.Outcome.{Outcome}
use Rattle.line_text.specs.Sending.{Streams, Takes}
use Rattle.cli_text.specs.declared.status.Status.{Status}
use Rattle.cli_text.specs.declared.status.Status.TheVariants.{Clean, Refused, Failed}
use Rattle.cli_text.specs.Status.{greater}
use Rattle.cli_text.specs.Telling.{fault_status, output_line, print_status_of}
use Rattle.cli_run.specs.Printed.{printed_replay, told_replay}

-- of an interface's captures
abbrev pub interface_status : InterfaceEnd → Status
interface_status interface.Clean = Clean
interface_status (interface.Capture n fault) = fault_status fault
interface_status interface.CountFull = Refused

-- of a listener's capture
abbrev pub task_status : TaskEnd → Status
task_status task.Clean = Clean
task_status (task.Write bytes) = Failed
task_status task.Unfinished = Refused

-- the greatest status of these listeners' ends
abbrev pub listeners_status : {W : Type 0} → List (ListenerReport W) → Status
listeners_status reports = fold (λ status report. greater status (task_status report.end)) Clean reports

-- the greatest status of an interface's end and its listeners'
abbrev pub report_status : {R W : Type 0} → InterfaceReport R W → Status
report_status report = greater (interface_status report.end) (listeners_status report.listeners.items)

-- the greatest status of all interfaces
abbrev pub run_status : {R W : Type 0} → List (InterfaceReport R W) → Status
run_status reports = fold (λ status report. greater status (report_status report)) Clean reports

-- A replay's reports were printed: all of them, or a prefix if standard output failed. What is reported is that it failed, if it did, and
-- then each interface that did not end clean. The status is the greatest of all.
pub record ReportsRun {R W : Type 0} (form : LineForm) (reports : List (InterfaceReport R W)) (old new : Streams) (outcome : Outcome) : Type 0 where
  pub printed : Result (Unit {0}) Error
  pub prints : Takes old.out new.out printed (printed_replay form reports)
  pub tells : Takes old.err new.err outcome.told (output_line printed ++ told_replay reports)
  pub greatest : outcome.status ≡ greater (print_status_of printed) (run_status reports)

-- A replay's reports were printed: all of them, or a prefix if standard output failed. The status is the greatest of all.
pub record PrintsRun {R W : Type 0} (form : LineForm) (reports : List (InterfaceReport R W)) (old new : Option (List ℕ)) (status : Status) : Type 0 where
  pub printed : Result (Unit {0}) Error
  pub prints : Takes old new printed (printed_replay form reports)
  pub greatest : status ≡ greater (print_status_of printed) (run_status reports)
