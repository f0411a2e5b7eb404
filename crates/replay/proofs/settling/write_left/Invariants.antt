use Rattle.std.proofs.Common.{◌≡◌, ◌+◌, List, ◌++◌, length}
use Rattle.rtrb.specs.Ring.{known_items}
use Rattle.listener.specs.Buffers.{Filled}
use Rattle.listener.specs.Laws.{joined}
use Rattle.listener.specs.declared.message.Message.{Message}
use Rattle.replay.specs.Reading.{messages_of}
use Rattle.replay.specs.Writing.{Writes}
use Rattle.replay.specs.declared.capture_output.OutputFile.{OutputFile}
use Rattle.replay.proofs.settling.write_left.Given as goal

-- the buffers that were written, and those that are left
abbrev pub invariant-loop : goal.invariant-loop
invariant-loop g l =
    (gone : List Filled)
    × (known_items l.fn.ring ≡ gone ++ known_items l.ring)
    × (l.left ≡ l.counter + length (known_items l.ring))
    × ((output : OutputFile _) (messages : List Message) → Writes g.W.Sink.taken g.W.Sink.failures output messages l.fn.written
    → Writes g.W.Sink.taken g.W.Sink.failures output (messages ++ joined (messages_of gone)) l.written)
