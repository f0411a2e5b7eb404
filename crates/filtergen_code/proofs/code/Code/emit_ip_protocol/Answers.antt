use Rattle.filtergen_code.proofs.Leading.{decides-guarded}
use Rattle.filtergen_code.proofs.code.Code.emit_ip_protocol.Goals as goal

pub returns : goal.returns
returns c = rw c.emit_ip_guard.ensures.places (decides-guarded c.args.targets c.requires.1 (rw c.ip_exits.ensures at c.emit_protocol_number-next.ensures) c.emit_ip_guard.ensures.test)
