use Rattle.std.proofs.Common.{◌≡◌, []}
use Rattle.listener.specs.Buffers.{filled}
use Rattle.test_listener.proofs.pairs.caller.drain_out.Given as goal

abbrev pub invariant-loop : goal.invariant-loop
invariant-loop l = (l.drain.pair ≡ l.initial.drain.pair) × (l.spare ≡ filled l.drain.profile.capacity [])
