use Rattle.filtergen_code.proofs.Leading.{decides-guarded}
use Rattle.filtergen_code.proofs.code.Code.emit_ip_multicast.Goals as goal

pub returns : goal.returns
returns c = rw c.emit_ip_guard.ensures.places (decides-guarded c.args.targets c.requires.1 (rw c.ip_exits-exits.ensures at c.emit_test-next.ensures) c.emit_ip_guard.ensures.test)
