use Rattle.filtergen_facts.proofs.Joining.{tcp-joined, udp-joined}
use Rattle.filtergen_facts.proofs.lists.ListKind.of_other_protocol.Goals.{in-TcpPorts, in-UdpPorts}
use Rattle.filtergen_facts.proofs.lists.ListKind.of_other_protocol.Goals as goal

pub returns : goal.returns
returns c = elim c.match-self.branch [
  | in-TcpPorts w ↦ rw w.form-is (tcp-joined c.args.self w.in-TcpPorts.is)
  | in-UdpPorts w ↦ rw w.form-is (udp-joined c.args.self w.in-UdpPorts.is)
]
