use Rattle.pcap_parts.proofs.Joining.{reads_by_parts}
use Rattle.pcap_parts.proofs.laws.reads_by_parts.Goals as goal

pub returns : goal.returns
returns c = reads_by_parts
