use Rattle.std.proofs.Common.{◌≡◌, ◌+◌, ◌≤◌, drop, length, vec_capacity}
use Rattle.std.specs.List.{AllZip}
use Rattle.replay.specs.Runs.{IsRunningOf}
use Rattle.replay.specs.Setups.{HasLinks}
use Rattle.replay.proofs.Lists.{Completes}
use Rattle.replay.proofs.start_barrier.Starter.launch_all.Given as goal

-- the interfaces whose threads run, and those that are left beside their links
abbrev pub invariant-loop-one : goal.invariant-loop-one
invariant-loop-one g l =
    (goal.iterator-loop-one g).can_next l.one-iterator × (goal.iterator-loop-one g).is_finite l.one-iterator
    × AllZip HasLinks (drop (length l.running.items) l.links) l.one-iterator.rest.items
    × Completes IsRunningOf l.fn.prepared.items l.running.items l.one-iterator.rest.items
    × (length l.running.items + length l.one-iterator.rest.items ≡ length l.fn.prepared.items)
    × (length l.fn.prepared.items ≤ vec_capacity l.running)
