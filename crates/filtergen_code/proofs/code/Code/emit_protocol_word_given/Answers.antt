use Rattle.filtergen_code.proofs.Narrowed.{given-any}
use Rattle.filtergen_code.proofs.code.Code.emit_protocol_word_given.Goals as goal

pub returns-in_default : goal.returns-in_default
returns-in_default c = given-any c.args.context.known c.emit_protocol_word.ensures

pub returns-in-Icmp : goal.returns-in-Icmp
returns-in-Icmp c = rw c.in-Icmp.is c.emit_ip_protocol_given.ensures

pub returns-in-Tcp : goal.returns-in-Tcp
returns-in-Tcp c = rw c.in-Tcp.is c.emit_ip_protocol_given-in-Tcp.ensures

pub returns-in-Udp : goal.returns-in-Udp
returns-in-Udp c = rw c.in-Udp.is c.emit_ip_protocol_given-in-Udp.ensures

pub returns-in-Sctp : goal.returns-in-Sctp
returns-in-Sctp c = rw c.in-Sctp.is c.emit_ip_protocol_given-in-Sctp.ensures
