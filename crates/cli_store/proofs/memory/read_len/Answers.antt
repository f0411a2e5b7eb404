use Rattle.std.proofs.Common.{◌∙◌, inl, inr, List, ℕ, length, take, refl, sym, subst, ap, take_all, arith}
use Rattle.std.proofs.lemmas.List.{take_min}
use Rattle.savefile.specs.Savefile.{RefusesHeader}
use Rattle.cli_store.proofs.memory.read_len.Goals as goal

pub returns-in-Ok : goal.returns-in-Ok
returns-in-Ok c =
    let whole = c.args.whole.now in
    let header = ap (λ (n : ℕ). take n whole) c.min.ensures ∙ take_min 24 whole in
    inr (λ fault refused. let is = c.in-Ok.ensures.refused fault (subst (λ (t : List ℕ). RefusesHeader t fault) (sym header) refused) in absurd cc, take_all (length whole) whole (omega arith))

pub returns-in-Err : goal.returns-in-Err
returns-in-Err c =
    let whole = c.args.whole.now in
    let header = ap (λ (n : ℕ). take n whole) c.min.ensures ∙ take_min 24 whole in
    inl ((c.in-Err.field-0, subst (λ (t : List ℕ). RefusesHeader t c.in-Err.field-0) header c.in-Err.ensures.err), refl)
