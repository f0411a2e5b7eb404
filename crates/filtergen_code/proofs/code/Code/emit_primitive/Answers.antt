use Rattle.std.proofs.Common.{arith, ◌==◌, not, bit_and}
use Rattle.filter_meaning.specs.Meaning.{check, byte}
use Rattle.filtergen_code.proofs.Leading.{decides_any, decides-by-same, decides-by-more}
use Rattle.filtergen_code.proofs.Sharing.{any_bit}
use Rattle.filtergen_code.proofs.code.Code.emit_primitive.Goals as goal

pub returns-in-Protocol : goal.returns-in-Protocol
returns-in-Protocol c = rw c.in-Protocol.is c.emit_protocol_word.ensures

pub returns-in-Some : goal.returns-in-Some
returns-in-Some c = rw (c.in-Net.is, c.in-Some.is) (decides-by-more 14 (omega arith) c.emit_net.ensures)

pub returns-in-None : goal.returns-in-None
returns-in-None c = rw (c.in-Net.is, c.in-None.is) c.emit_any_net.ensures

pub returns-in-EtherHost : goal.returns-in-EtherHost
returns-in-EtherHost c =
    rw (c.in-EtherHost.is, c.at.ensures) (decides_any c.args.targets (rw c.any_exits-exits.ensures at c.emit_ether_host.ensures))

pub returns-in-Ports : goal.returns-in-Ports
returns-in-Ports c = rw c.in-Ports.is (rw c.new.ensures at c.emit_ports.ensures)

pub returns-in-IpProto : goal.returns-in-IpProto
returns-in-IpProto c = rw c.in-IpProto.is (rw c.from.ensures at c.emit_ip_protocol.ensures)

pub returns-in-EtherProto : goal.returns-in-EtherProto
returns-in-EtherProto c = rw c.in-EtherProto.is (rw c.from-in-EtherProto.ensures at c.emit_any_type.ensures)

pub returns-in-EtherBroadcast : goal.returns-in-EtherBroadcast
returns-in-EtherBroadcast c =
    rw (c.in-EtherBroadcast.is, c.at-in-EtherBroadcast.ensures)
    (decides-by-more 8 (omega arith) (decides_any c.args.targets (rw c.any_exits-exits.ensures at c.emit_ethernet.ensures)))

pub returns-in-EtherMulticast : goal.returns-in-EtherMulticast
returns-in-EtherMulticast c =
    rw (c.in-EtherMulticast.is, c.at-in-EtherMulticast.ensures)
    (decides-by-same _ (λ p. check (λ b. not (bit_and b 1 == 0)) (byte 0 p)) (λ p bytes. any_bit (byte 0 p) 1)
    (decides_any c.args.targets (rw c.any_exits-exits.ensures at c.emit_test.ensures)))

pub returns-in-IpMulticast : goal.returns-in-IpMulticast
returns-in-IpMulticast c = rw c.in-IpMulticast.is c.emit_ip_multicast.ensures

pub returns-in-Less : goal.returns-in-Less
returns-in-Less c = rw (c.in-Less.is, c.at-in-Less.ensures) (decides_any c.args.targets (rw c.any_exits-exits.ensures at c.emit_less.ensures))

pub returns-in-Greater : goal.returns-in-Greater
returns-in-Greater c = rw (c.in-Greater.is, c.at-in-Greater.ensures) (decides_any c.args.targets (rw c.any_exits-exits.ensures at c.emit_test-in-Greater.ensures))
