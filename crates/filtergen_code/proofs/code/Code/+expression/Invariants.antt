use Rattle.std.proofs.Common.{◌+◌, ◌*◌}
use Rattle.filter_tree.specs.Trees.{tree_of}
use Rattle.filtergen_facts.specs.Lists.{size}
use Rattle.filtergen_code.proofs.Ends.{Continues}
use Rattle.filtergen_code.proofs.code.Code.+expression.Given as goal

-- the right end of an expression is looked at once more
abbrev pub decreases-emit_expr : goal.decreases-emit_expr
decreases-emit_expr l = 3 * size (tree_of l.expr.now) + 2

abbrev pub decreases-emit_right_end : goal.decreases-emit_right_end
decreases-emit_right_end l = 3 * size (tree_of l.expr.now) + 1

abbrev pub decreases-emit_last_link : goal.decreases-emit_last_link
decreases-emit_last_link l = 3 * (size (tree_of l.left.now) + size (tree_of l.right.now)) + 3

abbrev pub invariant-emit_expr-ends : goal.invariant-emit_expr-ends
invariant-emit_expr-ends l = Continues l.fn.context.known (tree_of l.expr) (tree_of l.rest) l.fn.context.targets l.on l.kept l.fn.self l.self

abbrev pub decreases-emit_expr-ends : goal.decreases-emit_expr-ends
decreases-emit_expr-ends l = size (tree_of l.rest)
