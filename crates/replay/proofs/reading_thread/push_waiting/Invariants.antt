use Rattle.std.proofs.Common.{◌≡◌}
use Rattle.rtrb.specs.Ring.{sent, SameProducer}
use Rattle.replay.proofs.reading_thread.push_waiting.Given as goal

abbrev pub invariant-loop : goal.invariant-loop
invariant-loop g l = SameProducer l.initial.producer l.producer × (sent l.producer ≡ sent l.initial.producer) × (l.buffer ≡ l.initial.buffer)
