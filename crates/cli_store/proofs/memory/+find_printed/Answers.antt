use Rattle.std.proofs.Common.{◌≡◌, ℕ, List, Bor, Some, option_copied, sym, subst}
use Rattle.cli_store.proofs.Shared.{any_later, found_later}
use Rattle.std.specs.List.{Any}
use Rattle.cli_store.proofs.memory.+find_printed.Goals as goal

pub returns-clause-found : goal.returns-clause-found
returns-clause-found t c =
    let P : Bor (List ℕ) → Type 0 = λ other. option_copied c.args.printed ≡ Some other.now in
    found_later (Any P) c.args.read.now c.in_ok-path.others.now (λ later. subst (Any P) (sym c.in_ok-path.ensures.cases.0) (any_later P c.in_ok-path.path.now c.in_ok-path.others.now later))
    c.find_printed.result c.find_printed.ensures.found
