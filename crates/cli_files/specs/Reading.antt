-- What an error of a file means.
use Rattle.std.specs.Prelude.{◌≡◌, ℕ, List, None, codes}
use Rattle.std.specs.Borrow.{Bor}
use Rattle.std.specs.IoError.{error_kind, raw_os_error}
use Rattle.std.specs.declared.io.Error.{Error}
use Rattle.std.specs.declared.io.ErrorKind.TheVariants.{OutOfMemory}
use Rattle.fault_report.specs.Reports.{IsDevice, IsNamed, IsNoMemory}
use Rattle.fault_report.specs.declared.report.Report.{Report}
use Rattle.fault_report.specs.declared.report.Subject.TheVariants.{File}

-- Memory was refused to this program. An error that the system gave for a file has a number, even if it is that of memory.
pub record IsRefusedMemory (error : Error) : Type 0 where
  pub kind : error_kind error ≡ OutOfMemory
  pub no_number : raw_os_error error ≡ None

-- a report of a file that could not be opened or read, or that memory was refused
abbrev pub IsFileReport : Error → Bor (List ℕ) → Report → Type 0
IsFileReport error path report =
    (IsRefusedMemory error → IsNoMemory report) × ((IsRefusedMemory error → ⊥) → IsDevice (File path) report)

-- a report of a text that is too long
abbrev pub IsLongTextReport : Report → Type 0
IsLongTextReport report = IsNamed (codes "TextTooLong") None report
