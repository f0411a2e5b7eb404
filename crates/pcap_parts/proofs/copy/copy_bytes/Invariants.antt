use Rattle.std.proofs.Common.{◌≡◌, ◌+◌, ◌<◌, ℕ, List, length}
use Rattle.std.specs.Io.KnownBytes.{Appends, Consumes}
use Rattle.pcap_parts.proofs.copy.copy_bytes.Given as goal

-- the bytes that were copied so far, and how many are left
abbrev pub invariant-loop-left : goal.invariant-loop-left
invariant-loop-left g l = record {
  copied : (bytes : List ℕ) × Consumes (g.R.Source.left l.fn.from) (g.R.Source.left l.from) bytes
      × Appends (g.W.Sink.taken l.fn.to) (g.W.Sink.taken l.to) bytes × (length bytes + l.left ≡ l.count);
  room : 0 < length l.room;
  named : g.W.Sink.name l.to ≡ g.W.Sink.name l.fn.to;
  input : g.R.Source.failures l.from ≡ g.R.Source.failures l.fn.from;
  output : g.W.Sink.failures l.to ≡ g.W.Sink.failures l.fn.to;
}

abbrev pub decreases-loop-left : goal.decreases-loop-left
decreases-loop-left g l = l.left
