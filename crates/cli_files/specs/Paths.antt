-- The statuses of paths that are refused.
use Rattle.std.specs.Prelude.{◌≡◌, Some, codes}
use Rattle.cli_text.specs.declared.status.Status.{Status}
use Rattle.cli_text.specs.declared.status.Status.TheVariants.{Failed, Refused}
use Rattle.fault_report.specs.Reports.{IsNamed, IsNoMemory}
use Rattle.fault_report.specs.declared.report.Report.{Report}
use Rattle.fault_report.specs.declared.report.Subject.TheVariants.{File}
use Rattle.cli_files.specs.Reading.{IsFileReport, IsRefusedMemory}
use Rattle.cli_files.specs.declared.paths.PathFault.{PathFault}
use Rattle.cli_files.specs.declared.paths.PathFault.TheVariants.{Same, Printed, Unknown, NoMemory}

-- The system did not say where a path leads: a file failed, or memory was refused. Else the paths are refused.
abbrev pub IsPathStatus : PathFault → Status → Type 0
IsPathStatus (Same path taken_for) status = status ≡ Refused
IsPathStatus (Printed path) status = status ≡ Refused
IsPathStatus (Unknown path error) status =
    (IsRefusedMemory error → status ≡ Refused) × ((IsRefusedMemory error → ⊥) → status ≡ Failed)
IsPathStatus NoMemory status = status ≡ Refused

-- a report of them: the path that is refused is named
abbrev pub IsPathReport : PathFault → Report → Type 0
IsPathReport (Same path taken_for) report = IsNamed (codes "SameFile") (Some (File path)) report
IsPathReport (Printed path) report = IsNamed (codes "SameFile") (Some (File path)) report
IsPathReport (Unknown path error) report = IsFileReport error path report
IsPathReport NoMemory report = IsNoMemory report
