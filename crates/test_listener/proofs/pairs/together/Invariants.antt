use Rattle.std.proofs.Common.{◌≡◌}
use Rattle.test_listener.proofs.pairs.together.Given as goal

abbrev pub invariant-loop-step : goal.invariant-loop-step
invariant-loop-step l = (l.feeder.pair ≡ l.initial.feeder.pair) × (l.drain.pair ≡ l.initial.drain.pair)
