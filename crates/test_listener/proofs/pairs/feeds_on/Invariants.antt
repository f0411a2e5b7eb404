use Rattle.std.proofs.Common.{◌≡◌}
use Rattle.test_listener.proofs.pairs.feeds_on.Given as goal

abbrev pub invariant-loop-step : goal.invariant-loop-step
invariant-loop-step l = l.feeder.pair ≡ l.initial.feeder.pair
