use Rattle.std.proofs.Common.{◌≡◌, ◌+◌, ◌≤◌, ◌++◌, drop, length, map, vec_capacity}
use Rattle.replay.specs.Lines.{ended_all, ended_of, line_of, slot_pair}
use Rattle.replay.proofs.replaying_thread.end_all.Given as goal

-- the feeders that have ended, and those that are left beside their links
abbrev pub invariant-loop-slot : goal.invariant-loop-slot
invariant-loop-slot l =
    let rest = l.slot-iterator.rest.items in
    goal.iterator-loop-slot.can_next l.slot-iterator × goal.iterator-loop-slot.is_finite l.slot-iterator
    × (map slot_pair rest ≡ drop (length l.ends.items) l.links)
    × (map ended_of l.ends.items ++ ended_all (map line_of rest) ≡ ended_all (map line_of l.fn.player.slots.items))
    × (length l.ends.items + length rest ≡ length l.fn.player.slots.items)
    × (length l.fn.player.slots.items ≤ vec_capacity l.ends)
