-- What is reported of reading and of printing, and the exit statuses.
use Rattle.std.specs.Prelude.{◌≡◌, ◌≢◌, ℕ, ◌==◌, Bool, true, false, List, Option, Some, None, Result, Ok, Err, ⊤, length, slice_get}
use Rattle.std.specs.Borrow.{Bor}
use Rattle.std.specs.IoError.{error_kind}
use Rattle.std.specs.declared.io.ErrorKind.TheVariants.{BrokenPipe}
use Rattle.savefile.specs.declared.fault.Fault.{Fault}
use Rattle.savefile.specs.declared.fault.Fault.TheVariants as fault
use Rattle.cli_text.specs.declared.status.Status.{Status}
use Rattle.cli_text.specs.declared.status.Status.TheVariants.{Clean, Refused, Failed}
use Rattle.cli_text.specs.Telling.{fault_status}
use Rattle.fault_report.specs.Captures.{IsCaptureFault, IsNthCaptureFault}
use Rattle.fault_report.specs.Reports.{IsDevice, IsNoMemory}
use Rattle.fault_report.specs.declared.report.Report.{Report}
use Rattle.fault_report.specs.declared.report.Subject.TheVariants.{File, StandardOutput}
use Rattle.cli_walk.specs.declared.walk.Stop.{Stop}
use Rattle.cli_answers.specs.declared.printing.Unprinted.{Unprinted}
use Rattle.cli_answers.specs.declared.printing.Unprinted.TheVariants.{NoMemory, Output}

-- ---- The exit statuses

-- of what was printed
abbrev pub printed_status : {A : Type 0} → Result A Unprinted → Status
printed_status (Ok done) = Clean
printed_status (Err NoMemory) = Refused
printed_status (Err (Output error)) = Failed

-- of the capture that ended the reading of several
abbrev pub stop_status : {A : Type 0} → Result A Stop → Status
stop_status (Ok done) = Clean
stop_status (Err stop) = fault_status stop.fault

-- of a packet that was looked for in several captures: one status if it was found, another if there is none
abbrev pub sought_status : (found none : Status) → Result Bool Stop → Status
sought_status found none (Ok true) = found
sought_status found none (Ok false) = none
sought_status found none (Err stop) = fault_status stop.fault

-- ---- What is reported

-- Of why not all was printed. If nobody reads what is printed any more, nothing is.
abbrev pub IsTold : Unprinted → Type 0
IsTold NoMemory = ⊤
IsTold (Output error) = error_kind error ≢ BrokenPipe

abbrev pub IsUnprintedReport : Unprinted → Report → Type 0
IsUnprintedReport NoMemory report = IsNoMemory report
IsUnprintedReport (Output error) report = IsDevice StandardOutput report

-- of the fault of a capture that is the only one at these paths, or one of several, which has this number
abbrev pub IsCountedFault : (only : Bool) → List (Bor (List ℕ)) → ℕ → Fault → Bor (List ℕ) → Report → Type 0
IsCountedFault true paths number fault path report = IsCaptureFault fault path report
IsCountedFault false paths number fault path report = IsNthCaptureFault fault number paths report

-- of the fault of the capture of this number, at a path, of those at these paths: that a device failed names the path
abbrev pub IsFaultAt : List (Bor (List ℕ)) → ℕ → Fault → Bor (List ℕ) → Report → Type 0
IsFaultAt paths number fault.Device path report = IsDevice (File path) report
IsFaultAt paths number other path report = IsCountedFault (length paths == 1) paths number other path report

abbrev pub IsFaultReport : List (Bor (List ℕ)) → ℕ → Fault → Option (Bor (List ℕ)) → Report → Type 0
IsFaultReport paths number fault None report = IsNthCaptureFault fault number paths report
IsFaultReport paths number fault (Some path) report = IsFaultAt paths number fault path report

-- of the capture that ended the reading, of those at these paths
abbrev pub IsStopReport : List (Bor (List ℕ)) → Stop → Report → Type 0
IsStopReport paths stop report = IsFaultReport paths stop.number stop.fault (slice_get paths stop.number) report

-- Why not all was printed is among what was reported: `among` says of a fault what is.
abbrev pub TellsUnprinted : {A : Type 0} → ((Report → Type 0) → Type 0) → Result A Unprinted → Type 0
TellsUnprinted among printed = (why : Unprinted) → printed ≡ Err why → IsTold why → among (IsUnprintedReport why)

-- so is what ended the reading of the captures at these paths
abbrev pub TellsStop : {A : Type 0} → ((Report → Type 0) → Type 0) → List (Bor (List ℕ)) → Result A Stop → Type 0
TellsStop among paths read = (stop : Stop) → read ≡ Err stop → among (IsStopReport paths stop)

-- so are both
abbrev pub TellsEnd : {A B : Type 0} → ((Report → Type 0) → Type 0) → List (Bor (List ℕ)) → Result A Unprinted → Result B Stop → Type 0
TellsEnd among paths printed read = TellsUnprinted among printed × TellsStop among paths read
