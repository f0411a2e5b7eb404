use Rattle.filtergen_code.proofs.Leading.{decides_any}
use Rattle.filtergen_code.proofs.code.Code.emit_ethernet_list.Goals as goal

pub returns : goal.returns
returns c =
    let done = rw c.any_exits.ensures at c.in_ok-entry.ensures in
    rw c.at.ensures (decides_any c.args.targets done)
