-- The exit status of a split.
use Rattle.std.specs.Prelude.{◌≡◌, All, List, ℕ, IsOk, Option, fold, Result, Ok, Err}
use Rattle.std.specs.declared.io.Error.{Error}
use Rattle.savefile.specs.declared.fault.Fault.{Fault}
use Rattle.line_text.specs.declared.form.NamingForm.{NamingForm}
use Rattle.line_text.specs.Sending.{Takes}
use Rattle.cli_text.specs.Status.{greater}
use Rattle.cli_text.specs.Telling.{fault_status, print_status_of}
use Rattle.cli_text.specs.declared.status.Status.{Status}
use Rattle.cli_text.specs.declared.status.Status.TheVariants.{Clean}
use Rattle.cli_split.specs.declared.part.PartEnd.{PartEnd}
use Rattle.cli_split.specs.declared.plan.SplitLine.{SplitLine}
use Rattle.cli_split.specs.declared.split.SplitEnd.{SplitEnd}
use Rattle.cli_split.specs.declared.split.Stop.{Stop}
use Rattle.cli_split.specs.declared.split.Stop.TheVariants.{AtHeader, AtRecord}
use Rattle.cli_split.specs.Printed.{printed_split}

-- of what ended the reading
abbrev pub stop_status : Result (Unit {0}) Stop → Status
stop_status (Ok done) = Clean
stop_status (Err (AtHeader n fault)) = fault_status fault
stop_status (Err (AtRecord n fault)) = fault_status fault

-- of how a part was written
abbrev pub written_status : Result (Unit {0}) Fault → Status
written_status (Ok done) = Clean
written_status (Err fault) = fault_status fault

-- the greatest status of these parts
abbrev pub parts_status : {W : Type 0} → List (PartEnd W) → Status
parts_status parts = fold (λ status part. greater status (written_status part.written)) Clean parts

-- the greatest status of the parts and of the reading
abbrev pub split_status : {R W : Type 0} → SplitEnd R W → Status
split_status end = greater (parts_status end.parts.items) (stop_status end.end)

-- the captures were read to their ends, and each part was written whole
abbrev pub WentWell : {R W : Type 0} → SplitEnd R W → Type 0
WentWell end = IsOk end.end × All (λ part. IsOk part.written) end.parts.items

-- The lines were printed: all of them, or a prefix if standard output failed. The status is the greatest of all.
pub record ReportsSplit {R W : Type 0} (form : NamingForm) (lines : List SplitLine) (end : SplitEnd R W) (old new : Option (List ℕ)) (status : Status) : Type 0 where
  pub printed : Result (Unit {0}) Error
  pub prints : Takes old new printed (printed_split form lines end)
  pub greatest : status ≡ greater (print_status_of printed) (split_status end)
