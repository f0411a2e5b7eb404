use Rattle.pcap_parts.proofs.Whole.{holds_its_parts}
use Rattle.pcap_parts.proofs.laws.holds_its_parts.Goals as goal

pub returns : goal.returns
returns c = holds_its_parts
