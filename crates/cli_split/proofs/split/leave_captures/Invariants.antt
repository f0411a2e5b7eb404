use Rattle.std.proofs.Common.{◌≡◌, ◌+◌, ◌≤◌, ◌++◌, length, vec_capacity}
use Rattle.cli_split.proofs.split.leave_captures.Given as goal

abbrev pub invariant-loop-source : goal.invariant-loop-source
invariant-loop-source g l =
    (goal.iterator-loop-source g).can_next l.source-iterator × (goal.iterator-loop-source g).is_finite l.source-iterator
    × (l.sources.items ++ l.source-iterator.rest.items ≡ l.fn.sources.items ++ l.fn.captures.items)
    × (length l.sources.items + length l.source-iterator.rest.items ≤ vec_capacity l.sources)
