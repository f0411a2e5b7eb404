use Rattle.std.proofs.Common.{◌≡◌, List}
use Rattle.rtrb.specs.Ring.{received, SameConsumer}
use Rattle.listener.specs.declared.message.Message.{Message}
use Rattle.replay.specs.Writing.{Writes}
use Rattle.replay.specs.declared.capture_output.OutputFile.{OutputFile}
use Rattle.replay.proofs.writer_thread.write_rest.Given as goal

-- nothing was popped so far
abbrev pub invariant-loop : goal.invariant-loop
invariant-loop g l =
    SameConsumer l.fn.rest l.rest × (received l.rest ≡ received l.fn.rest)
    × ((output : OutputFile _) (messages : List Message) → Writes g.W.Sink.taken g.W.Sink.failures output messages l.fn.written
    → Writes g.W.Sink.taken g.W.Sink.failures output messages l.written)
