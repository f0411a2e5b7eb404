use Rattle.std.proofs.Common.{◌+◌, ◌≤◌, length, vec_capacity}
use Rattle.cli_walk.proofs.Walking.{WalksSoFar}
use Rattle.cli_walk.proofs.walk.visit_captures.Given as goal

-- the captures that were visited or left, and those to come
abbrev pub invariant-loop-capture : goal.invariant-loop-capture
invariant-loop-capture g l =
    (goal.iterator-loop-capture g).can_next l.capture-iterator × (goal.iterator-loop-capture g).is_finite l.capture-iterator
    × WalksSoFar g.R.Source.left g.R.Source.failures (g.V.Visitor.visits l.visitor) l.fn.captures.items l.fn.state l.fn.out l.sources.items (length l.sources.items) l.capture-iterator.rest.items l.state l.out l.end
    × (length l.sources.items + length l.capture-iterator.rest.items ≤ vec_capacity l.sources)
