use Rattle.std.proofs.Common.{◌≡◌}
use Rattle.test_listener.proofs.pairs.reads_on.Given as goal

abbrev pub invariant-loop : goal.invariant-loop
invariant-loop l = l.drain.pair ≡ l.initial.drain.pair
