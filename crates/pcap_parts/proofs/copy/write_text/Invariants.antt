use Rattle.std.proofs.Common.{◌≡◌, length}
use Rattle.pcap_parts.proofs.Copied.{IsLeft}
use Rattle.pcap_parts.proofs.copy.write_text.Given as goal

abbrev pub invariant-loop-rest : goal.invariant-loop-rest
invariant-loop-rest g l = record {
  sent : IsLeft (g.W.Sink.taken l.fn.to) (g.W.Sink.taken l.to) l.text l.rest;
  named : g.W.Sink.name l.to ≡ g.W.Sink.name l.fn.to;
  failures : g.W.Sink.failures l.to ≡ g.W.Sink.failures l.fn.to;
}

abbrev pub decreases-loop-rest : goal.decreases-loop-rest
decreases-loop-rest g l = length l.rest
