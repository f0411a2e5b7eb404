use Rattle.std.proofs.Common.{List, ◌++◌}
use Rattle.rtrb.specs.Ring.{received, SameConsumer}
use Rattle.listener.specs.Laws.{joined}
use Rattle.listener.specs.declared.message.Message.{Message}
use Rattle.replay.specs.Reading.{messages_of}
use Rattle.replay.specs.Writing.{Writes}
use Rattle.replay.specs.declared.capture_output.OutputFile.{OutputFile}
use Rattle.replay.proofs.writer_thread.write_read.Given as goal

-- what was popped is written after what was written before
abbrev pub invariant-loop : goal.invariant-loop
invariant-loop g l =
    SameConsumer l.fn.full l.full
    × ((output : OutputFile _) (messages : List Message)
    → Writes g.W.Sink.taken g.W.Sink.failures output (messages ++ joined (messages_of (received l.fn.full))) l.fn.written
    → Writes g.W.Sink.taken g.W.Sink.failures output (messages ++ joined (messages_of (received l.full))) l.written)
