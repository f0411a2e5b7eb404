use Rattle.std.proofs.Common.{List, ◌++◌, map}
use Rattle.listener.specs.Buffers.{message_in}
use Rattle.listener.specs.declared.message.Message.{Message}
use Rattle.replay.specs.declared.capture_output.OutputFile.{OutputFile}
use Rattle.replay.specs.Writing.{Writes}
use Rattle.replay.proofs.capture_output.Written.put_all.Given as goal

-- the messages so far are written
abbrev pub invariant-loop-record : goal.invariant-loop-record
invariant-loop-record g l =
    (output : OutputFile _) (messages : List Message) → Writes g.W.Sink.taken g.W.Sink.failures output messages l.fn.self
    → Writes g.W.Sink.taken g.W.Sink.failures output (messages ++ map message_in l.yielded) l.self
