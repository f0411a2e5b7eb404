use Rattle.pcap_parts.proofs.Bodies.{joins_the_cut}
use Rattle.pcap_parts.proofs.laws.joins_the_cut.Goals as goal

pub returns : goal.returns
returns c = joins_the_cut
