use Rattle.pcap_parts.proofs.Joining.{cuts_of_parts}
use Rattle.pcap_parts.proofs.laws.cuts_its_parts.Goals as goal

pub returns : goal.returns
returns c = cuts_of_parts
