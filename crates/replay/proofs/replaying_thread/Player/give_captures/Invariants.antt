use Rattle.std.proofs.Common.{◌≡◌, ◌+◌, ◌-◌, ◌≤◌, ◌^◌, List, [], All, length, vec_capacity}
use Rattle.listener.specs.Messages.{Arrival}
use Rattle.replay.specs.Lines.{Line, HasArrived}
use Rattle.replay.specs.Writing.{IsTimely}
use Rattle.replay.proofs.Played.{PlaysSoFar}
use Rattle.replay.proofs.replaying_thread.Player.give_captures.Given as goal

-- the captures that were read, and those that are left
abbrev pub invariant-loop-n : goal.invariant-loop-n
invariant-loop-n g l =
    (goal.iterator-loop-n g).can_next l.n-iterator × (goal.iterator-loop-n g).is_finite l.n-iterator
    × (l.self.arrived ≤ 2 ^ 64 - 2)
    × ((starts : List Line) × (playlist : List Arrival) × HasArrived starts playlist l.self)
    × ((starts : List Line) → HasArrived starts [] l.fn.self → (playlist : List Arrival) × All (λ (a : Arrival). IsTimely a.packet.nanos) playlist × HasArrived starts playlist l.self
    × PlaysSoFar g.S.Source.left g.S.Source.failures l.fn.captures.items l.sources.items l.n-iterator.count l.n-iterator.iter.rest.items playlist l.end)
    × (length l.sources.items + length l.n-iterator.iter.rest.items ≡ length l.fn.captures.items)
    × (l.n-iterator.count ≡ length l.sources.items)
    × (length l.fn.captures.items ≤ vec_capacity l.sources)
