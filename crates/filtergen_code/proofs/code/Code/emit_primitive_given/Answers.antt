use Rattle.std.proofs.Common.{arith}
use Rattle.filtergen_code.proofs.Narrowed.{given-any, given-more}
use Rattle.filtergen_code.proofs.code.Code.emit_primitive_given.Goals as goal

pub returns-in-Protocol : goal.returns-in-Protocol
returns-in-Protocol c = rw c.in-Protocol.is c.emit_protocol_word_given.ensures

pub returns-in-IpProto : goal.returns-in-IpProto
returns-in-IpProto c = rw c.in-IpProto.is (rw c.from.ensures at c.emit_ip_protocol_given.ensures)

pub returns-in-Some : goal.returns-in-Some
returns-in-Some c =
    rw c.in-Ports.is (given-more 33 (omega arith) (rw c.new-ports.ensures at c.emit_ports_given.ensures))

pub returns-in-None : goal.returns-in-None
returns-in-None c = rw c.in-Ports.is (given-any c.args.context.known c.emit_primitive.ensures)

pub returns-else-has_type : goal.returns-else-has_type
returns-else-has_type c = rw c.in-Net.is (given-any c.args.context.known c.emit_primitive-else-has_type.ensures)

pub returns-in_default : goal.returns-in_default
returns-in_default c = given-any c.args.context.known c.emit_primitive-in_default.ensures
