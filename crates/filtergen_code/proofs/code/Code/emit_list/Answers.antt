use Rattle.std.proofs.Common.{arith}
use Rattle.std.proofs.lemmas.Result.{MatchResult-weaker}
use Rattle.filtergen_code.proofs.Narrowed.{given-any, given-more}
use Rattle.filtergen_code.proofs.code.Code.emit_list.Goals as goal

pub returns-in-Net : goal.returns-in-Net
returns-in-Net c =
    rw c.in-Net.is (MatchResult-weaker c.emit_net_list.result c.emit_net_list.ensures (λ entry done. given-more _ (omega (arith, c.requires.many)) done) (λ e full. omega (arith, full, c.requires.many)))

pub returns-in-IpNet : goal.returns-in-IpNet
returns-in-IpNet c =
    rw c.in-IpNet.is (MatchResult-weaker c.emit_ip_net_list.result c.emit_ip_net_list.ensures (λ entry done. given-more _ (omega (arith, c.requires.many)) done) (λ e full. omega (arith, full, c.requires.many)))

pub returns-in-ArpNet : goal.returns-in-ArpNet
returns-in-ArpNet c =
    rw c.in-ArpNet.is (MatchResult-weaker c.emit_arp_list.result c.emit_arp_list.ensures (λ entry done. given-more _ (omega (arith, c.requires.many)) (given-any c.args.context.known done)) (λ e full. omega (arith, full, c.requires.many)))

pub returns-in-RarpNet : goal.returns-in-RarpNet
returns-in-RarpNet c =
    rw c.in-RarpNet.is (MatchResult-weaker c.emit_arp_list-in-RarpNet.result c.emit_arp_list-in-RarpNet.ensures (λ entry done. given-more _ (omega (arith, c.requires.many)) (given-any c.args.context.known done)) (λ e full. omega (arith, full, c.requires.many)))

pub returns-in-Ports : goal.returns-in-Ports
returns-in-Ports c =
    rw c.in-Ports.is (MatchResult-weaker c.emit_port_list.result c.emit_port_list.ensures (λ entry done. given-more _ (omega (arith, c.requires.many)) done) (λ e full. omega (arith, full, c.requires.many)))

pub returns-in-TcpPorts : goal.returns-in-TcpPorts
returns-in-TcpPorts c =
    rw c.in-TcpPorts.is (MatchResult-weaker c.emit_port_list-in-TcpPorts.result c.emit_port_list-in-TcpPorts.ensures (λ entry done. given-more _ (omega (arith, c.requires.many)) done) (λ e full. omega (arith, full, c.requires.many)))

pub returns-in-UdpPorts : goal.returns-in-UdpPorts
returns-in-UdpPorts c =
    rw c.in-UdpPorts.is (MatchResult-weaker c.emit_port_list-in-UdpPorts.result c.emit_port_list-in-UdpPorts.ensures (λ entry done. given-more _ (omega (arith, c.requires.many)) done) (λ e full. omega (arith, full, c.requires.many)))

pub returns-in-SctpPorts : goal.returns-in-SctpPorts
returns-in-SctpPorts c =
    rw c.in-SctpPorts.is (MatchResult-weaker c.emit_port_list-in-SctpPorts.result c.emit_port_list-in-SctpPorts.ensures (λ entry done. given-more _ (omega (arith, c.requires.many)) done) (λ e full. omega (arith, full, c.requires.many)))

pub returns-in-TcpOrUdpPorts : goal.returns-in-TcpOrUdpPorts
returns-in-TcpOrUdpPorts c =
    rw c.in-TcpOrUdpPorts.is (MatchResult-weaker c.emit_tcp_or_udp_port_list.result c.emit_tcp_or_udp_port_list.ensures (λ entry done. given-more _ (omega (arith, c.requires.many)) done) (λ e full. omega (arith, full, c.requires.many)))

pub returns-in-IpProto : goal.returns-in-IpProto
returns-in-IpProto c =
    rw c.in-IpProto.is (MatchResult-weaker c.emit_protocol_list.result c.emit_protocol_list.ensures (λ entry done. given-more _ (omega (arith, c.requires.many)) done) (λ e full. omega (arith, full, c.requires.many)))

pub returns-in-EtherProto : goal.returns-in-EtherProto
returns-in-EtherProto c =
    rw c.in-EtherProto.is (MatchResult-weaker c.emit_type_list.result c.emit_type_list.ensures (λ entry done. given-more _ (omega (arith, c.requires.many)) (given-any c.args.context.known done)) (λ e full. omega (arith, full, c.requires.many)))

pub returns-in-EtherHost : goal.returns-in-EtherHost
returns-in-EtherHost c =
    rw c.in-EtherHost.is (MatchResult-weaker c.emit_ethernet_list.result c.emit_ethernet_list.ensures (λ entry done. given-more _ (omega (arith, c.requires.many)) (given-any c.args.context.known done)) (λ e full. omega (arith, full, c.requires.many)))

pub returns-in-Bytes : goal.returns-in-Bytes
returns-in-Bytes c = rw c.in-Bytes.is c.emit_bytes_list.ensures
