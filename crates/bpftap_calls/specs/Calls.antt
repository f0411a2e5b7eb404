-- What the functions of the commands promise beside those that they call.
use Rattle.std.specs.Prelude.{◌≡◌, ℕ, List, Option, Result, IfErr, OnOk}
use Rattle.cli_text.specs.Status.{code}
use Rattle.cli_filter.specs.declared.program.FilterFault.{FilterFault}
use Rattle.cli_filter.specs.Filter.{IsNoFilter}
use Rattle.cli_cut.specs.declared.print.PrintFault.{PrintFault}
use Rattle.cli_cut.specs.Printing.{Prints, IsUnchecked}
use Rattle.cli_cut.specs.Telling.{print_status}

-- there is no filter, for a fault that applies, and the exit status is 1
abbrev pub IsRefusedFilter : Option (List ℕ) → Option (List ℕ) → ℕ → ℕ → Type 0
IsRefusedFilter listing expr snap status = (status ≡ 1) × ((fault : FilterFault) × IsNoFilter listing expr snap fault)

-- what `check` prints of an expression: the listing of its program, or for a fault that applies nothing or a beginning of it; and the
-- exit status of that
abbrev pub Checks : Option (List ℕ) → Option (List ℕ) → List ℕ → ℕ → Type 0
Checks old new text status =
    (printed : Result (Unit {0}) PrintFault) × OnOk printed (Prints old new text) × IfErr printed (IsUnchecked old new text)
    × (status ≡ code (print_status printed))
