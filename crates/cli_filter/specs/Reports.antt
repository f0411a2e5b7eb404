-- Why there is no filter, as it is reported.
use Rattle.std.specs.Prelude.{◌≡◌, ℕ, Bool, true, false, List, [], ◌∷◌, Option, Some, None, codes}
use Rattle.std.specs.Borrow.{Bor}
use Rattle.bpfvm.specs.Faults.{invalid_name, invalid_place, listing_fault_name}
use Rattle.bpfvm.specs.declared.fault.Invalid.{Invalid}
use Rattle.bpfvm.specs.declared.fault.ListingFault.{ListingFault}
use Rattle.bpfvm.specs.declared.fault.ListingFault.TheVariants as listing
use Rattle.bpf_asm.specs.Faults.{assembly_fault_name}
use Rattle.bpf_asm.specs.declared.fault.AssemblyFault.{AssemblyFault}
use Rattle.bpf_asm.specs.declared.fault.AssemblyFault.TheVariants as assembly
use Rattle.filtergen.specs.Faults.{expression_fault_name, expression_fault_place}
use Rattle.filtergen.specs.declared.expression.ExpressionFault.{ExpressionFault}
use Rattle.filtergen.specs.declared.expression.ExpressionFault.TheVariants as expression
use Rattle.fault_report.specs.Reports.{IsNamed, IsNoMemory, IsPlaced}
use Rattle.fault_report.specs.Words.{IsPart, place_word}
use Rattle.fault_report.specs.declared.report.Report.{Report}
use Rattle.fault_report.specs.declared.word.Word.TheVariants.{Name, Nothing}
use Rattle.cli_filter.specs.Plan.{lacks_memory}
use Rattle.cli_filter.specs.declared.program.FilterFault.{FilterFault}
use Rattle.cli_filter.specs.declared.program.FilterFault.TheVariants.{Twice, Listing, Assembly, Expression}
use Rattle.cli_filter.specs.declared.plan.PlanFault.{PlanFault}
use Rattle.cli_filter.specs.declared.plan.PlanFault.TheVariants as plan

-- the fault of an expression, with its place
abbrev pub IsExpressionReport : ExpressionFault → Report → Type 0
IsExpressionReport fault report = IsPlaced (expression_fault_name fault) (expression_fault_place fault) None report

-- the fault of a program, with its place, after the name of that of its text
abbrev pub IsProgramReport : List ℕ → Invalid → Report → Type 0
IsProgramReport name fault report =
    (report.name.now ≡ name) × ((inner : Bor (List ℕ)) × (inner.now ≡ invalid_name fault)
    × (report.words ≡ Name inner ∷ place_word (invalid_place fault) ∷ Nothing ∷ Nothing ∷ Nothing ∷ [])) × (report.subject ≡ None)

-- the fault of a listing, with its line
abbrev pub IsListingReport : ListingFault → Report → Type 0
IsListingReport (listing.BadLine line) report = IsPlaced (listing_fault_name (listing.BadLine line)) (Some line) None report
IsListingReport listing.Count report = IsNamed (listing_fault_name listing.Count) None report
IsListingReport (listing.Program fault) report = IsProgramReport (listing_fault_name (listing.Program fault)) fault report

-- the fault of assembly, with its line
abbrev pub IsAssemblyReport : AssemblyFault → Report → Type 0
IsAssemblyReport (assembly.Line line fault) report = IsPlaced (assembly_fault_name (assembly.Line line fault)) (Some line) None report
IsAssemblyReport (assembly.Program fault) report = IsProgramReport (assembly_fault_name (assembly.Program fault)) fault report
IsAssemblyReport other report = IsNamed (assembly_fault_name other) None report

-- why there is no filter
abbrev pub IsFilterReport : FilterFault → Report → Type 0
IsFilterReport Twice report = IsNamed (codes "FilterTwice") None report
IsFilterReport (Listing fault) report = IsListingReport fault report
IsFilterReport (Assembly fault) report = IsAssemblyReport fault report
IsFilterReport (Expression fault) report = IsExpressionReport fault report

-- the name before the number of a line whose expression has no program
abbrev pub uncompiled_name : ExpressionFault → List ℕ
uncompiled_name (expression.Text fault) = codes "Expression"
uncompiled_name (expression.Tree refusal) = codes "Compile"

-- the expression of a line, from 0, has no program: its number, and the fault of the expression
abbrev pub IsPartReport : ℕ → ExpressionFault → Report → Type 0
IsPartReport n fault report =
    (report.name.now ≡ uncompiled_name fault) × IsPart n (expression_fault_name fault) (place_word (expression_fault_place fault)) report.words × (report.subject ≡ None)

-- or memory was refused, which has no number
abbrev pub IsUncompiledBy : Bool → ℕ → ExpressionFault → Report → Type 0
IsUncompiledBy true n fault report = IsExpressionReport fault report
IsUncompiledBy false n fault report = IsPartReport n fault report

abbrev pub IsUncompiledReport : ℕ → ExpressionFault → Report → Type 0
IsUncompiledReport n fault report = IsUncompiledBy (lacks_memory fault) n fault report

-- why a file of lines is refused; a bad line is named after the file
abbrev pub IsPlanReport : List ℕ → PlanFault → Report → Type 0
IsPlanReport file (plan.Line line) report = IsPlaced file (Some line) None report
IsPlanReport file (plan.Expression n fault) report = IsUncompiledReport n fault report
IsPlanReport file plan.TooMany report = IsNamed (codes "TooMany") None report
IsPlanReport file plan.NoMemory report = IsNoMemory report
