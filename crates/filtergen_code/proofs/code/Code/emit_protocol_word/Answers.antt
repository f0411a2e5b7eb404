use Rattle.filtergen_code.specs.declared.code.Exits.{Exits}
use Rattle.filter_meaning.specs.Meaning.{is_type}
use Rattle.filtergen_code.proofs.Deciding.{decides-always}
use Rattle.filtergen_code.proofs.Leading.{and-yes, decides-by-same, decides-guarded}
use Rattle.filtergen_code.proofs.code.Code.emit_protocol_word.Goals as goal

pub returns-in-Ip : goal.returns-in-Ip
returns-in-Ip c =
    let w = c.args.targets in
    let exits : Exits = record { yes = w.yes.ip; no = w.no.ip } in
    rw (c.in-Ip.is, c.emit_ip_guard.ensures.places)
    (decides-by-same _ (is_type 0x0800) (λ p bytes. and-yes (is_type 0x0800 p))
    (decides-guarded w c.requires.1 (decides-always exits c.args.self.now (c.requires.1.0.ip, c.requires.1.1.ip)) c.emit_ip_guard.ensures.test))

pub returns-in-Icmp : goal.returns-in-Icmp
returns-in-Icmp c = rw c.in-Icmp.is c.emit_ip_protocol.ensures

pub returns-in-Tcp : goal.returns-in-Tcp
returns-in-Tcp c = rw c.in-Tcp.is c.emit_ip_protocol-in-Tcp.ensures

pub returns-in-Udp : goal.returns-in-Udp
returns-in-Udp c = rw c.in-Udp.is c.emit_ip_protocol-in-Udp.ensures

pub returns-in-Sctp : goal.returns-in-Sctp
returns-in-Sctp c = rw c.in-Sctp.is c.emit_ip_protocol-in-Sctp.ensures
