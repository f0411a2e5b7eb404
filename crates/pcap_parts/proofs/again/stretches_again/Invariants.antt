use Rattle.pcap_parts.specs.Again.{AreAgainUpTo}
use Rattle.pcap_parts.proofs.again.stretches_again.Given as goal

abbrev pub invariant-loop-index : goal.invariant-loop-index
invariant-loop-index l = AreAgainUpTo l.parts l.fn.cut_off l.size l.again.items l.next
