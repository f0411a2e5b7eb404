use Rattle.filtergen_code.proofs.Leading.{decides-guarded}
use Rattle.filtergen_code.proofs.code.Code.emit_net.Goals as goal

pub returns-in-Ip : goal.returns-in-Ip
returns-in-Ip c =
    rw (c.in-Ip.is, c.emit_ip_guard.ensures.places)
    (decides-guarded c.args.targets c.requires.1 (rw c.ip_exits.ensures at c.emit_addresses-next.ensures) c.emit_ip_guard.ensures.test)

pub returns-in-Arp : goal.returns-in-Arp
returns-in-Arp c = rw c.in-Arp.is c.emit_arp_net.ensures

pub returns-in-Rarp : goal.returns-in-Rarp
returns-in-Rarp c = rw c.in-Rarp.is c.emit_arp_net-in-Rarp.ensures
