use Rattle.std.proofs.Common.{◌≡◌, ◌++◌, map}
use Rattle.listener.specs.Buffers.{message_in}
use Rattle.tap_steps.proofs.watched.copy.Given as goal

abbrev pub invariant-loop-record : goal.invariant-loop-record
invariant-loop-record l = l.to.items ≡ l.fn.to.items ++ map message_in l.yielded
