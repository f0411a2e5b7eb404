-- What is reported of reading and of printing, and the exit statuses.
use Rattle.std.specs.Prelude.{◌≡◌, ℕ, Bool, true, false, List, Some, Result, Ok, Err, codes, option_map, slice_get}
use Rattle.std.specs.Borrow.{Bor}
use Rattle.savefile.specs.declared.fault.Fault.{Fault}
use Rattle.cli_text.specs.declared.status.Status.{Status}
use Rattle.cli_text.specs.declared.status.Status.TheVariants.{Clean, Refused}
use Rattle.cli_text.specs.Telling.{fault_status}
use Rattle.fault_report.specs.Reports.{IsPlaced}
use Rattle.fault_report.specs.declared.report.Report.{Report}
use Rattle.fault_report.specs.declared.report.Subject.TheVariants.{Capture}
use Rattle.cli_answers.specs.Telling.{IsFaultReport, TellsUnprinted}
use Rattle.cli_answers.specs.declared.printing.Unprinted.{Unprinted}

-- of what was read
abbrev pub read_status : {A : Type 0} → Result A Fault → Status
read_status (Ok done) = Clean
read_status (Err fault) = fault_status fault

-- of the packet that was looked for: the capture may have none at its place
abbrev pub found_status : Result Bool Fault → Status
found_status (Ok true) = Clean
found_status (Ok false) = Refused
found_status (Err fault) = fault_status fault

-- the capture of this number, of those at these paths, has no packet at a place
abbrev pub IsNoPacketReport : List (Bor (List ℕ)) → ℕ → (place : ℕ) → Report → Type 0
IsNoPacketReport paths n place report = IsPlaced (codes "NoPacket") (Some place) (option_map Capture (slice_get paths n)) report

-- That there is none, or the capture's fault, is among what was reported: `among` says of a fault what is.
abbrev pub TellsRead : ((Report → Type 0) → Type 0) → List (Bor (List ℕ)) → ℕ → (place : ℕ) → Result Bool Fault → Type 0
TellsRead among paths n place read =
    (read ≡ Ok false → among (IsNoPacketReport paths n place))
    × ((fault : Fault) → read ≡ Err fault → among (IsFaultReport paths n fault (slice_get paths n)))

-- so is why not all was printed
abbrev pub TellsFound : {A : Type 0} → ((Report → Type 0) → Type 0) → List (Bor (List ℕ)) → ℕ → (place : ℕ) → Result Bool Fault → Result A Unprinted → Type 0
TellsFound among paths n place read printed = TellsUnprinted among printed × TellsRead among paths n place read
