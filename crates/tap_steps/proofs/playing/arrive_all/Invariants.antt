use Rattle.std.proofs.Common.{◌≡◌, ◌++◌, map, take, drop}
use Rattle.tap_steps.specs.Watching.{arrived_at}
use Rattle.tap_steps.proofs.playing.arrive_all.Given as goal

abbrev pub invariant-loop-one : goal.invariant-loop-one
invariant-loop-one l = l.one-items ≡ map (arrived_at l.placed) (take l.one-index l.fn.watched.items) ++ drop l.one-index l.fn.watched.items
