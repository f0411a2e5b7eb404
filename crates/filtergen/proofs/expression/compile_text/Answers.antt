use Rattle.std.proofs.Common.{◌<◌, ap, subst, inl, inr, Err}
use Rattle.filter_tree.specs.Trees.{tree_of, Tree}
use Rattle.filtergen_facts.specs.Weights.{need}
use Rattle.filtergen_code.specs.Compiling.{Fits}
use Rattle.filtergen.specs.declared.expression.ExpressionFault.TheVariants as faults
use Rattle.filtergen.proofs.Snaps.{bad_or_right, fits_unrefused}
use Rattle.filtergen.proofs.expression.compile_text.Goals as goal

pub returns-in-Ok-compile-clause-too_deep : goal.returns-in-Ok-compile-clause-too_deep
returns-in-Ok-compile-clause-too_deep c = λ tree reads deep.
    let same = c.in-Ok.ensures.only tree reads in
    let at = subst (λ (t : Tree). 16 < need t) same deep in
    elim (bad_or_right c.args.snap) [
      | inl bad ↦ (let e = c.in-Ok-compile.ensures.bad_snap.1 bad in absurd cc)
      | inr right ↦ (let e = c.in-Ok-compile.ensures.too_deep.1 (right.0, right.1, at) in absurd cc)
    ]

pub returns-in-Ok-clause-fits : goal.returns-in-Ok-clause-fits
returns-in-Ok-clause-fits c = λ tree short reads fits.
    let same = c.in-Ok.ensures.only tree reads in
    let refused = c.in-Err-compile.ensures in
    absurd (fits_unrefused (tree_of c.in-Ok.expr) c.args.snap c.in-Err-compile.refusal (subst (λ (t : Tree). Fits t c.args.snap) same fits)
    (λ e. refused.bad_snap.0 (ap Err e)) (λ e. (refused.too_deep.0 (ap Err e)).2) (λ e. refused.too_long (ap Err e)) (λ e. refused.no_memory (ap Err e)))

pub returns-clause-fits : goal.returns-clause-fits
returns-clause-fits c = λ tree short reads fits. ap faults.Text (c.in-Err.ensures.accepted tree short reads)
