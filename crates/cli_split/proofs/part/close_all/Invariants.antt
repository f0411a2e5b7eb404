use Rattle.std.proofs.Common.{◌≡◌, ◌+◌, ◌≤◌, length, vec_capacity}
use Rattle.cli_split.specs.Standing.{IsEndOf}
use Rattle.cli_split.proofs.Lists.{Completes}
use Rattle.cli_split.proofs.part.close_all.Given as goal

-- the parts that were ended, and those that are left
abbrev pub invariant-loop-outlet : goal.invariant-loop-outlet
invariant-loop-outlet g l =
    (goal.iterator-loop-outlet g).can_next l.outlet-iterator × (goal.iterator-loop-outlet g).is_finite l.outlet-iterator
    × Completes (IsEndOf g.W.Sink.taken g.W.Sink.name g.W.Sink.failures) l.fn.outlets.items l.ends.items l.outlet-iterator.rest.items
    × (length l.ends.items + length l.outlet-iterator.rest.items ≡ length l.fn.outlets.items)
    × (length l.fn.outlets.items ≤ vec_capacity l.ends)
