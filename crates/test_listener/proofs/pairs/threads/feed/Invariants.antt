use Rattle.std.proofs.Common.{◌≡◌}
use Rattle.test_listener.proofs.pairs.threads.feed.Given as goal

abbrev pub invariant-loop-place : goal.invariant-loop-place
invariant-loop-place l = l.feeder.pair ≡ l.initial.feeder.pair
