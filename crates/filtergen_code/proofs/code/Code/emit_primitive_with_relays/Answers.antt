use Rattle.std.proofs.Common.{arith}
use Rattle.filtergen_code.proofs.Leading.{relays-all-later}
use Rattle.filtergen_code.proofs.Narrowed.{given-more, given-relayed}
use Rattle.filtergen_code.proofs.code.Code.emit_primitive_with_relays.Goals as goal

pub returns : goal.returns
returns c =
    let relayed = c.emit_relays-targets.ensures in
    let done = c.emit_primitive_given-entry.ensures in
    (given-more _ (omega (arith, c.cost.ensures)) (given-relayed relayed.extends relayed.relays done), relays-all-later relayed.relays done.extends)
