use Rattle.pcap_parts.proofs.Joining.{cuts_by_parts}
use Rattle.pcap_parts.proofs.laws.cuts_by_parts.Goals as goal

pub returns : goal.returns
returns c = cuts_by_parts
