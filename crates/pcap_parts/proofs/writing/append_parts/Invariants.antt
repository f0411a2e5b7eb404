use Rattle.std.proofs.Common.{◌≡◌, ◌<◌, length, take, true}
use Rattle.pcap_parts.specs.Writing.{TookBodies}
use Rattle.pcap_parts.proofs.writing.append_parts.Given as goal

abbrev pub invariant-loop-part : goal.invariant-loop-part
invariant-loop-part g l = record {
  took : g.F.PartFiles.known ≡ true → TookBodies (g.F.PartFiles.text l.files) (g.W.Sink.taken l.fn.to) (g.W.Sink.taken l.to) (take l.part-index l.parts);
  room : 0 < length l.room;
  named : g.W.Sink.name l.to ≡ g.W.Sink.name l.fn.to;
}
