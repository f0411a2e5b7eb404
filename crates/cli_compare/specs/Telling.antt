-- What is reported of a refusal, of reading and of OUT, and the exit statuses.
use Rattle.std.specs.Prelude.{◌≡◌, ℕ, Bool, true, false, List, [], ◌++◌, Option, Some, None, Result, Ok, Err, codes}
use Rattle.std.specs.Borrow.{Bor}
use Rattle.line_text.specs.declared.form.LineForm.{LineForm}
use Rattle.line_text.specs.declared.form.LineForm.TheVariants.{Text, Json}
use Rattle.filtergen.specs.Faults.{expression_fault_name, expression_fault_place}
use Rattle.filtergen.specs.declared.expression.ExpressionFault.{ExpressionFault}
use Rattle.fault_report.specs.Reports.{IsDevice, IsPlaced, Tells, reported}
use Rattle.fault_report.specs.declared.report.Report.{Report}
use Rattle.fault_report.specs.declared.report.Subject.TheVariants.{Argument, File}
use Rattle.cli_files.specs.Reading.{IsFileReport}
use Rattle.cli_filter.specs.Reports.{IsExpressionReport}
use Rattle.cli_filter.specs.declared.program.FilterFault.TheVariants as filter
use Rattle.cli_args.specs.declared.compare.CompareWords.{CompareWords}
use Rattle.cli_answers.specs.declared.asked.Unasked.{Unasked}
use Rattle.cli_answers.specs.declared.asked.Unasked.TheVariants as unasked
use Rattle.cli_answers.specs.Asked.{IsUnaskedReport}
use Rattle.cli_compare.specs.declared.asked.Uncompared.{Uncompared}
use Rattle.cli_compare.specs.declared.asked.Uncompared.TheVariants.{First, Second, Files}
use Rattle.cli_compare.specs.declared.outcome.OutFault.{OutFault}
use Rattle.cli_compare.specs.declared.outcome.OutFault.TheVariants.{Unmade, Unwritten}

-- ---- What is reported of a refusal

-- an argument is named below its fault, if it is: an object of JSON has its name itself
abbrev pub below : Option (List ℕ) → LineForm → List ℕ
below None form = []
below (Some name) Text = codes "  " ++ name ++ codes ":\n"
below (Some name) Json = []

-- A fault was reported of which this is said, with this name below it if there is one, and nothing else was.
abbrev pub TellsWith : {E : Type 0} → (E → Bool) → (E → Bool) → (E → Option (List ℕ)) → (E → LineForm) → Option (List ℕ) → (Report → Type 0) → E → E → Type 0
TellsWith hints failed contents form name says old new =
    (report : Report) × says report × Tells hints failed contents form old new (reported (form old) report ++ below name (form old))

-- the name of the first of two expressions; beside a listing it is the only one
abbrev pub first_name : Option (Bor (List ℕ)) → Option (List ℕ)
first_name None = Some (codes "EXPR1")
first_name (Some listing) = None

-- an expression that is refused is named, and no other fault names what has it
abbrev pub name_of : Option (List ℕ) → Unasked → Option (List ℕ)
name_of name (unasked.Filter None (filter.Expression fault)) = name
name_of name other = None

abbrev pub name_of_refusal : CompareWords → Uncompared → Option (List ℕ)
name_of_refusal words (First reason) = name_of (first_name words.listing) reason
name_of_refusal words (Second reason) = name_of (Some (codes "EXPR2")) reason
name_of_refusal words (Files reason) = None

-- the fault of the expression of this name
abbrev pub IsNamedReport : Option (List ℕ) → ExpressionFault → Report → Type 0
IsNamedReport None fault report = IsExpressionReport fault report
IsNamedReport (Some name) fault report = (argument : Bor (List ℕ)) × (argument.now ≡ name)
    × IsPlaced (expression_fault_name fault) (expression_fault_place fault) (Some (Argument argument)) report

-- of why there is no filter
abbrev pub IsUngivenReport : Option (List ℕ) → Unasked → Report → Type 0
IsUngivenReport name (unasked.Filter None (filter.Expression fault)) report = IsNamedReport name fault report
IsUngivenReport name other report = IsUnaskedReport other report

-- of why nothing is compared
abbrev pub IsRefusedReport : CompareWords → Uncompared → Report → Type 0
IsRefusedReport words (First reason) report = IsUngivenReport (first_name words.listing) reason report
IsRefusedReport words (Second reason) report = IsUngivenReport (Some (codes "EXPR2")) reason report
IsRefusedReport words (Files reason) report = IsUnaskedReport reason report

-- ---- What is reported of OUT

-- of why the file at this path has no packet
abbrev pub IsOutReport : Bor (List ℕ) → OutFault → Report → Type 0
IsOutReport path (Unmade error) report = IsFileReport error path report
IsOutReport path (Unwritten error) report = IsDevice (File path) report

-- If it has none, why was reported: `told` says of a fault that it was.
abbrev pub TellsOut : ((Report → Type 0) → Type 0) → Bor (List ℕ) → Result (Unit {0}) OutFault → Type 0
TellsOut told path wrote = (fault : OutFault) → wrote ≡ Err fault → told (IsOutReport path fault)
