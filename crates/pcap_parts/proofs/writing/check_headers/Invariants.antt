use Rattle.std.proofs.Common.{◌≡◌, ◌<◌, All, length, take, true}
use Rattle.pcap_parts.specs.Writing.{HasHeader}
use Rattle.pcap_parts.proofs.writing.check_headers.Given as goal

abbrev pub invariant-loop-other : goal.invariant-loop-other
invariant-loop-other g l = record {
  same : g.F.PartFiles.known ≡ true → All (HasHeader (g.F.PartFiles.text l.files) l.header) (take l.other-index l.parts);
  room : 0 < length l.room;
}
