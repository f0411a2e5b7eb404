use Rattle.std.proofs.Common.{◌≡◌, List, ◌++◌, length}
use Rattle.std.specs.Io.KnownBytes.{Appends}
use Rattle.cli_steps.proofs.picture.send_all.Given as goal

-- what was taken so far is the front of the bytes
abbrev pub invariant-loop-rest : goal.invariant-loop-rest
invariant-loop-rest g l = record {
  sent : (front : List _) × (l.bytes ≡ front ++ l.rest) × Appends (g.S.Sink.taken l.fn.sink) (g.S.Sink.taken l.sink) front;
  failures : g.S.Sink.failures l.sink ≡ g.S.Sink.failures l.fn.sink;
  named : g.S.Sink.name l.sink ≡ g.S.Sink.name l.fn.sink;
}

abbrev pub decreases-loop-rest : goal.decreases-loop-rest
decreases-loop-rest g l = length l.rest
