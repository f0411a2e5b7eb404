use Rattle.std.proofs.Common.{◌≡◌, ◌+◌, ◌*◌, length}
use Rattle.filterlang.specs.Phrases.{kinds}
use Rattle.filter_tree.specs.Trees.{tree_of}
use Rattle.filterlang.specs.Readers.{chain}
use Rattle.filterlang.specs.Reading.{joints, group_at, group_term_at}
use Rattle.filterlang.proofs.cursor.Cursor.+group.Given as goal

abbrev pub decreases-group : goal.decreases-group
decreases-group l = 2 * l.levels + 1

abbrev pub decreases-group_term : goal.decreases-group_term
decreases-group_term l = 2 * l.levels

-- What is left, joined to what was read, is all.
abbrev pub invariant-group-loop-joint : goal.invariant-group-loop-joint
invariant-group-loop-joint l =
    chain joints (group_term_at l.levels) (length (kinds l.self.rest.now)) (tree_of l.expr) l.qualifiers (kinds l.self.rest.now)
    ≡ group_at l.levels l.qualifiers (kinds l.fn.self.rest.now)

abbrev pub decreases-group-loop-joint : goal.decreases-group-loop-joint
decreases-group-loop-joint l = length (kinds l.self.rest.now)
