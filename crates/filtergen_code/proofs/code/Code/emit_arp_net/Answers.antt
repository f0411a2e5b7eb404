use Rattle.filtergen_code.proofs.Deciding.{decides-both}
use Rattle.filtergen_code.proofs.Leading.{decides_any}
use Rattle.filtergen_code.proofs.code.Code.emit_arp_net.Goals as goal

pub returns : goal.returns
returns c =
    let targets = c.args.targets in
    let inner = rw c.any_exits-exits.ensures at c.emit_addresses-next.ensures in
    let typed = rw c.any_exits-exits.ensures at c.emit_ether_type.ensures in
    rw c.at.ensures (decides_any targets (decides-both (c.requires.1.0.any, c.requires.1.1.any) inner typed))
