use Rattle.std.proofs.Common.{◌≡◌, ◌+◌, ◌≤◌, ◌++◌, drop, length, map, vec_capacity}
use Rattle.replay.specs.TaskStates.{threads_line, threads_pair, threads_task, parts_line, parts_pair, parts_task}
use Rattle.replay.proofs.start_barrier.Starter.start_all.Given as goal

-- the tasks whose threads run, and those that are left beside their links
abbrev pub invariant-loop-parts : goal.invariant-loop-parts
invariant-loop-parts g l =
    let rest = l.parts-iterator.rest.items in
    (goal.iterator-loop-parts g).can_next l.parts-iterator × (goal.iterator-loop-parts g).is_finite l.parts-iterator
    × (map parts_pair rest ≡ drop (length l.all_threads.items) l.links)
    × (map threads_line l.all_threads.items ++ map parts_line rest ≡ map parts_line l.fn.all_parts.items)
    × (map threads_pair l.all_threads.items ++ map parts_pair rest ≡ map parts_pair l.fn.all_parts.items)
    × (map threads_task l.all_threads.items ++ map parts_task rest ≡ map parts_task l.fn.all_parts.items)
    × (length l.all_threads.items + length rest ≡ length l.fn.all_parts.items)
    × (length l.fn.all_parts.items ≤ vec_capacity l.all_threads)
