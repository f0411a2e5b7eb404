use Rattle.std.proofs.Common.{◌≡◌, ℕ, List, Bor, sym, subst}
use Rattle.std.specs.List.{Any}
use Rattle.cli_store.proofs.Shared.{any_later}
use Rattle.cli_store.proofs.memory.+is_among.Goals as goal

pub returns-else-is_same_text-clause-same : goal.returns-else-is_same_text-clause-same
returns-else-is_same_text-clause-same t c = λ is.
    let P : Bor (List ℕ) → Type 0 = λ other. other.now ≡ c.args.path.now in
    subst (Any P) (sym c.in-Some.ensures.cases.0) (any_later P c.in-Some.other.now c.in-Some.others.now (c.is_among.ensures.same is))
