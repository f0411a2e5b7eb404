use Rattle.std.proofs.Common.{◌≡◌, ◌+◌, ◌≤◌, ◌++◌, length, map, vec_capacity}
use Rattle.replay.specs.TaskStates.{parts_line, parts_pair, parts_task}
use Rattle.replay.specs.Lines.{line_of}
use Rattle.replay.proofs.setup.make_all.Given as goal

-- the tasks made so far, and those that are left
abbrev pub invariant-loop-task : goal.invariant-loop-task
invariant-loop-task g l =
    (goal.iterator-loop-task g).can_next l.task-iterator × (goal.iterator-loop-task g).is_finite l.task-iterator
    × (map parts_task l.all.all_parts.items ++ l.task-iterator.rest.items ≡ l.fn.tasks.items)
    × (map parts_pair l.all.all_parts.items ≡ l.all.links.items)
    × (map line_of l.all.slots.items ≡ map parts_line l.all.all_parts.items)
    × (length l.all.all_parts.items + length l.task-iterator.rest.items ≡ length l.fn.tasks.items)
    × (length l.all.links.items ≡ length l.all.all_parts.items) × (length l.all.slots.items ≡ length l.all.all_parts.items)
    × (length l.fn.tasks.items ≤ vec_capacity l.all.links) × (length l.fn.tasks.items ≤ vec_capacity l.all.slots)
    × (length l.fn.tasks.items ≤ vec_capacity l.all.all_parts)
