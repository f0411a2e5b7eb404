use Rattle.std.proofs.Common.{refl}
use Rattle.filtergen_code.proofs.Seeking.{follows-passed}
use Rattle.filtergen_code.proofs.code.Code.emit_lookup.Goals as goal

pub returns : goal.returns
returns c =
    let choice = c.in_ok-emit_comparisons.ensures in
    rw c.len.ensures.value (follows-passed c.args.location c.args.ranges.now c.requires.some (choice.1 c.requires.some) c.exits_after_load-exits.ensures choice.0 c.emit_load.ensures, refl)
