use Rattle.std.proofs.Common.{◌≡◌, ◌+◌, ◌≤◌, [], length, vec_capacity}
use Rattle.cli_split.specs.Standing.{HasTaken}
use Rattle.cli_split.proofs.Lists.{Completes}
use Rattle.cli_split.proofs.part.begin_all.Given as goal

-- the parts that were begun, and those that are left
abbrev pub invariant-loop-part : goal.invariant-loop-part
invariant-loop-part g l =
    (goal.iterator-loop-part g).can_next l.part-iterator × (goal.iterator-loop-part g).is_finite l.part-iterator
    × Completes (HasTaken g.W.Sink.taken g.W.Sink.name g.W.Sink.failures l.order l.unit []) l.fn.parts.items l.outlets.items l.part-iterator.rest.items
    × (length l.outlets.items + length l.part-iterator.rest.items ≡ length l.fn.parts.items)
    × (length l.fn.parts.items ≤ vec_capacity l.outlets)
