use Rattle.std.proofs.Common.{◌≡◌, ◌+◌, ◌*◌, length}
use Rattle.filterlang.specs.Phrases.{kinds}
use Rattle.filter_tree.specs.Trees.{tree_of}
use Rattle.filterlang.specs.Readers.{chain}
use Rattle.filterlang.specs.Reading.{joints, expr_at, term_at}
use Rattle.filterlang.proofs.parser.Parser.+expr.Given as goal

abbrev pub decreases-expr : goal.decreases-expr
decreases-expr l = 3 * l.levels + 2

abbrev pub decreases-term : goal.decreases-term
decreases-term l = 3 * l.levels + 1

abbrev pub decreases-logical : goal.decreases-logical
decreases-logical l = 3 * l.levels

-- What is left, joined to what was read, is all.
abbrev pub invariant-expr-loop-joint : goal.invariant-expr-loop-joint
invariant-expr-loop-joint l =
    chain joints (term_at l.levels) (length (kinds l.self.cursor.rest.now)) (tree_of l.expr) l.self.nearest (kinds l.self.cursor.rest.now)
    ≡ expr_at l.levels l.fn.self.nearest (kinds l.fn.self.cursor.rest.now)

abbrev pub decreases-expr-loop-joint : goal.decreases-expr-loop-joint
decreases-expr-loop-joint l = length (kinds l.self.cursor.rest.now)
