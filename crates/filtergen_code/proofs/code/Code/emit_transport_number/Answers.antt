use Rattle.std.proofs.Common.{arith}
use Rattle.filtergen_code.proofs.Deciding.{decides-more}
use Rattle.filtergen_code.proofs.code.Code.emit_transport_number.Goals as goal

pub returns-in-Some : goal.returns-in-Some
returns-in-Some c =
    let number = rw c.protocol_number.ensures at c.emit_protocol_number.ensures in
    rw c.in-Some.is (decides-more 10 (omega arith) number)
