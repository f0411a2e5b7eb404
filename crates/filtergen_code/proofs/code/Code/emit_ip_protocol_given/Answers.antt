use Rattle.std.proofs.Common.{sym, arith}
use Rattle.filter_meaning.specs.Meaning.{is_protocol}
use Rattle.filtergen_code.proofs.Knowing.{type-from, number-from}
use Rattle.filtergen_code.proofs.Narrowed.{given-any, given-more, given-passed, given-ip, protocol-known}
use Rattle.filtergen_code.proofs.code.Code.emit_ip_protocol_given.Goals as goal

pub returns-then-has_protocol : goal.returns-then-has_protocol
returns-then-has_protocol c =
    let known = c.args.context.known in
    given-more 8 (omega arith)
    (given-passed known (is_protocol c.args.number) c.args.context.targets c.args.self.now c.requires.1.0 (λ p holds. number-from known c.args.number p holds (sym c.if-has_protocol.ensures)))

pub returns-then-has_type : goal.returns-then-has_type
returns-then-has_type c =
    let known = c.args.context.known in
    rw c.at.ensures
    (given-more 8 (omega arith)
    (given-ip known (is_protocol c.args.number) c.args.context.targets
    (λ p holds. type-from known 0x0800 p holds (sym c.if-has_type.ensures))
    (λ p holds. protocol-known c.args.number p (type-from known 0x0800 p holds (sym c.if-has_type.ensures)))
    (rw c.ip_exits-exits.ensures at c.emit_protocol_number.ensures)))

pub returns : goal.returns
returns c = given-any c.args.context.known c.emit_ip_protocol.ensures
