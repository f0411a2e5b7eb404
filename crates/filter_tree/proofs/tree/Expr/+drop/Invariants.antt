use Rattle.std.proofs.Common.{◌≤◌}
use Rattle.filter_tree.proofs.tree.Expr.+drop.Given as goal
use Rattle.filter_tree.specs.declared.tree.Expr.{size-Expr}

abbrev pub invariant-loop-self : goal.invariant-loop-self
invariant-loop-self l = size-Expr l.self ≤ size-Expr l.initial.self
