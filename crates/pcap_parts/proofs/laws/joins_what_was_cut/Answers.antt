use Rattle.pcap_parts.proofs.Cutting.{joins_what_was_cut}
use Rattle.pcap_parts.proofs.laws.joins_what_was_cut.Goals as goal

pub returns : goal.returns
returns g c = joins_what_was_cut g.R.Source.left g.W.Sink.taken
