use Rattle.std.proofs.Common.{◌≡◌, ◌+◌, ◌≤◌, All, length, vec_capacity}
use Rattle.std.specs.List.{AllZip}
use Rattle.replay_types.specs.Refusals.{IsInBounds}
use Rattle.replay.specs.Setups.{HasLinks, IsPreparedFor}
use Rattle.replay.proofs.Lists.{Completes}
use Rattle.replay.proofs.setup.prepare_all.Given as goal

-- the interfaces made so far, and those that are left
abbrev pub invariant-loop-interface : goal.invariant-loop-interface
invariant-loop-interface g l =
    (goal.iterator-loop-interface g).can_next l.interface-iterator × (goal.iterator-loop-interface g).is_finite l.interface-iterator
    × All IsInBounds l.interface-iterator.rest.items
    × AllZip HasLinks l.links.items l.prepared.items
    × Completes IsPreparedFor l.fn.interfaces.items l.prepared.items l.interface-iterator.rest.items
    × (length l.prepared.items + length l.interface-iterator.rest.items ≡ length l.fn.interfaces.items)
    × (length l.links.items ≡ length l.prepared.items)
    × (length l.fn.interfaces.items ≤ vec_capacity l.links) × (length l.fn.interfaces.items ≤ vec_capacity l.prepared)
