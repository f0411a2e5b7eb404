use Rattle.std.proofs.Common.{◌≡◌, List, ◌++◌, length}
use Rattle.savefile.specs.Sending.{Sends}
use Rattle.savefile.specs.Writer.{writing}
use Rattle.savefile.proofs.writing.Writer.send_rest.Given as goal

-- what was sent so far is the front of the bytes
abbrev pub invariant-loop-rest : goal.invariant-loop-rest
invariant-loop-rest g l = let w = l.self-inside in record {
  sent : (front : List _) × (l.bytes ≡ front ++ l.rest) × Sends g.W.Sink.taken l.fn.self (writing w.sink w.order w.unit w.sent w.failed) front;
  failed : w.failed ≡ l.fn.self.failed;
  failures : g.W.Sink.failures w.sink ≡ g.W.Sink.failures l.fn.self.sink;
  named : g.W.Sink.name w.sink ≡ g.W.Sink.name l.fn.self.sink;
}

abbrev pub decreases-loop-rest : goal.decreases-loop-rest
decreases-loop-rest g l = length l.rest
