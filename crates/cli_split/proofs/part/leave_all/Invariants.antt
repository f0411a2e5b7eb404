use Rattle.std.proofs.Common.{◌≡◌, ◌+◌, ◌≤◌, length, vec_capacity}
use Rattle.cli_split.specs.Writing.{IsLeft}
use Rattle.cli_split.proofs.Lists.{Completes}
use Rattle.cli_split.proofs.part.leave_all.Given as goal

-- the ends of the parts before, and the parts that are left
abbrev pub invariant-loop-part : goal.invariant-loop-part
invariant-loop-part g l =
    (goal.iterator-loop-part g).can_next l.part-iterator × (goal.iterator-loop-part g).is_finite l.part-iterator
    × Completes IsLeft l.fn.parts.items l.ends.items l.part-iterator.rest.items
    × (length l.ends.items + length l.part-iterator.rest.items ≡ length l.fn.parts.items)
    × (length l.fn.parts.items ≤ vec_capacity l.ends)
