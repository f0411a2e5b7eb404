use Rattle.std.proofs.Common.{inr, refl}
use Rattle.filter_tree.specs.Trees.{tree_of}
use Rattle.bpftap_c.specs.Texts.{IsExpression}
use Rattle.bpftap_c.proofs.comparisons.compared.Goals as goal

pub returns-clause-err : goal.returns-clause-err
returns-clause-err c =
    let first : IsExpression c.args.first.now = (tree_of c.in-Ok.expr, c.in-Ok.ensures.ok) in
    let second : IsExpression c.args.second.now = (tree_of c.in-Ok-expression_of.expr, c.in-Ok-expression_of.ensures.ok) in
    inr (inr (refl, first, second, refl))
