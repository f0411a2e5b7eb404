-- What a command asks of captures: the filter, and the captures. Read it from the last definition up.
use Rattle.std.specs.Prelude.{◌≡◌, ◌⊎◌, ℕ, ◌<◌, length, Bool, true, List, [], Option, Some, None, IfSome, All, ⊤}
use Rattle.std.specs.List.{AllZip, Any}
use Rattle.std.specs.Borrow.{Bor}
use Rattle.std.specs.declared.io.Error.{Error}
use Rattle.filterlang.specs.Texts.{IsRefusalOf}
use Rattle.filtergen.specs.declared.expression.ExpressionFault.TheVariants as faults
use Rattle.cli_text.specs.declared.status.Status.{Status}
use Rattle.cli_text.specs.declared.status.Status.TheVariants as status
use Rattle.fault_report.specs.declared.report.Report.{Report}
use Rattle.cli_files.specs.Paths.{IsPathReport, IsPathStatus}
use Rattle.cli_files.specs.Reading.{IsFileReport, IsLongTextReport, IsRefusedMemory}
use Rattle.cli_files.specs.declared.paths.Opening.TheVariants.{First}
use Rattle.cli_files.specs.declared.paths.PathFault.{PathFault}
use Rattle.cli_files.specs.declared.paths.PathFault.TheVariants as paths
use Rattle.cli_files.specs.declared.reading.TheConstants.{MAX_TEXT}
use Rattle.cli_filter.specs.Filter.{IsFilter, IsNoFilter, expression_of}
use Rattle.cli_filter.specs.Reports.{IsFilterReport}
use Rattle.cli_filter.specs.declared.program.FilterFault.{FilterFault}
use Rattle.cli_filter.specs.declared.program.FilterFault.TheVariants as filter
use Rattle.cli_store.specs.Files.{IsUnprinted, Places, Texts, text_at}
use Rattle.cli_answers.specs.declared.asked.Asked.{Asked}
use Rattle.cli_answers.specs.declared.asked.Unasked.{Unasked}
use Rattle.cli_answers.specs.declared.asked.Unasked.TheVariants as unasked
use Rattle.cli_answers.specs.declared.filter.AskedFilter.{AskedFilter}
use Rattle.cli_answers.specs.declared.filter.AskedFilter.TheVariants.{Expression, Program}
use Rattle.cli_answers.specs.Filter.{IsOfExpression}

-- ---- The filter

-- a filter is the program of the listing at a place
abbrev pub IsOfListing : Option (List ℕ) → AskedFilter → Type 0
IsOfListing text (Expression expr) = ⊥
IsOfListing text (Program program) = (listing : List ℕ) × (text ≡ Some listing) × IsFilter (Some listing) None 0 program.value

-- the filter that is asked for: that of the listing's file, or that of the expression; without either that of the empty one
abbrev pub IsAskedFor : Places → Texts → Option (List ℕ) → Option (List ℕ) → AskedFilter → Type 0
IsAskedFor place text (Some path) (Some expr) asked = ⊥
IsAskedFor place text (Some path) None asked = IsOfListing (text (place path)) asked
IsAskedFor place text None expr asked = IsOfExpression (expression_of expr) asked

-- an expression is no filter
abbrev pub IsNoExpression : List ℕ → FilterFault → Type 0
IsNoExpression expr (filter.Expression (faults.Text fault)) = IsRefusalOf expr fault
IsNoExpression expr fault = ⊥

-- why the listing's file, or the expression, gives no filter; or both are given
abbrev pub IsUnfit : Places → Texts → Option (List ℕ) → Option (List ℕ) → FilterFault → Type 0
IsUnfit place text (Some path) (Some expr) fault = fault ≡ filter.Twice
IsUnfit place text (Some path) None fault =
    (listing : List ℕ) × (text (place path) ≡ Some listing) × IsNoFilter (Some listing) None 0 fault
IsUnfit place text None expr fault = IsNoExpression (expression_of expr) fault

-- a file has more bytes than a text may have
abbrev pub IsLongText : Places → Texts → List ℕ → Type 0
IsLongText place text path = (whole : List ℕ) × (text (place path) ≡ Some whole) × (MAX_TEXT < length whole)

-- why there is no filter
abbrev pub IsUngiven : Places → Texts → Bool → Option (List ℕ) → Option (List ℕ) → Unasked → Type 0
IsUngiven place text failed listing expr (unasked.Filter kept fault) = IsUnfit place text listing expr fault
IsUngiven place text failed listing expr (unasked.TextTooLong path) = (listing ≡ Some path.now) × IsLongText place text path.now
IsUngiven place text failed listing expr (unasked.File path error) = (listing ≡ Some path.now) × (IsRefusedMemory error ⊎ (failed ≡ true))
IsUngiven place text failed listing expr (unasked.Paths fault) = ⊥

-- ---- The paths

-- standard output goes to none of the files that are read
abbrev pub AreUnprinted : Places → Texts → Option (List ℕ) → List (Bor (List ℕ)) → Type 0
AreUnprinted place text printed inputs = All (λ input. IsUnprinted First place text printed input.now) inputs

-- why the paths are refused: standard output goes to the listing's file or to that of a capture; or a device failed, or memory was refused
abbrev pub IsPrintedTo : Places → Option (List ℕ) → Bool → Option (List ℕ) → List (Bor (List ℕ)) → PathFault → Type 0
IsPrintedTo place printed failed listing inputs (paths.Printed path) =
    ((file : List ℕ) × (listing ≡ Some file) × (printed ≡ Some (place file))) ⊎ Any (λ input. printed ≡ Some (place input.now)) inputs
IsPrintedTo place printed failed listing inputs (paths.Same path taken_for) = ⊥
IsPrintedTo place printed failed listing inputs (paths.Unknown path error) = IsRefusedMemory error ⊎ (failed ≡ true)
IsPrintedTo place printed failed listing inputs paths.NoMemory = ⊤

-- ---- The captures

-- a capture has the bytes of the file at a path, and did not fail so far
abbrev pub IsCaptureAt : {R : Type 0} → (R → Option (List ℕ)) → (R → ℕ) → Places → Texts → Bor (List ℕ) → R → Type 0
IsCaptureAt left failures place text path capture = (left capture ≡ Some (text_at text (place path.now))) × (failures capture ≡ 0)

-- why the captures at these paths are not opened: memory was refused, or a device failed
abbrev pub IsUnopened : Bool → List (Bor (List ℕ)) → Unasked → Type 0
IsUnopened failed inputs (unasked.File path error) = Any (λ input. input.now ≡ path.now) inputs × (IsRefusedMemory error ⊎ (failed ≡ true))
IsUnopened failed inputs (unasked.Paths paths.NoMemory) = ⊤
IsUnopened failed inputs other = ⊥

-- ---- Both

-- What is asked: this filter, of the captures at these paths, in order; and standard output goes to no file that is read.
pub record IsAsked {R : Type 0} (left : R → Option (List ℕ)) (failures : R → ℕ) (place : Places) (text : Texts) (printed listing expr : Option (List ℕ)) (inputs : List (Bor (List ℕ))) (asked : Asked R) : Type 0 where
  pub given : IsAskedFor place text listing expr asked.filter
  pub apart : IfSome listing (IsUnprinted First place text printed)
  pub unprinted : AreUnprinted place text printed inputs
  pub captures : AllZip (IsCaptureAt left failures place text) inputs asked.captures.items

-- standard output goes to a file that is read
abbrev pub IsPrintReason : Places → Option (List ℕ) → Bool → Option (List ℕ) → List (Bor (List ℕ)) → Unasked → Type 0
IsPrintReason place printed failed listing inputs (unasked.Paths fault) = IsPrintedTo place printed failed listing inputs fault
IsPrintReason place printed failed listing inputs other = ⊥

-- Why nothing is asked: there is no filter, standard output goes to a file that is read, or a capture is not opened.
abbrev pub IsUnasked : Places → Texts → Option (List ℕ) → Bool → Option (List ℕ) → Option (List ℕ) → List (Bor (List ℕ)) → Unasked → Type 0
IsUnasked place text printed failed listing expr inputs reason =
    IsUngiven place text failed listing expr reason ⊎ IsPrintReason place printed failed listing inputs reason ⊎ IsUnopened failed inputs reason

-- ---- The exit status

-- of a file that could not be read or opened
abbrev pub IsFileStatus : Error → Status → Type 0
IsFileStatus error ended = (IsRefusedMemory error → ended ≡ status.Refused) × ((IsRefusedMemory error → ⊥) → ended ≡ status.Failed)

abbrev pub IsUnaskedStatus : Unasked → Status → Type 0
IsUnaskedStatus (unasked.Filter kept fault) ended = ended ≡ status.Refused
IsUnaskedStatus (unasked.TextTooLong path) ended = ended ≡ status.Refused
IsUnaskedStatus (unasked.Paths fault) ended = IsPathStatus fault ended
IsUnaskedStatus (unasked.File path error) ended = IsFileStatus error ended

-- ---- What is reported of it

abbrev pub IsUnaskedReport : Unasked → Report → Type 0
IsUnaskedReport (unasked.Filter kept fault) report = IsFilterReport fault report
IsUnaskedReport (unasked.TextTooLong path) report = IsLongTextReport report
IsUnaskedReport (unasked.Paths fault) report = IsPathReport fault report
IsUnaskedReport (unasked.File path error) report = IsFileReport error path report
