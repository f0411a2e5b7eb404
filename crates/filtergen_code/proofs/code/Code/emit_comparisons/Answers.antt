use Rattle.filtergen_code.proofs.Seeking.{chooses-next, leads-near, leads-later}
use Rattle.filtergen_code.proofs.code.Code.emit_comparisons.Goals as goal

pub loop-range-preserved : goal.loop-range-preserved
loop-range-preserved c =
    let jump = c.emit_range_branch.ensures in
    let near = c.emit_relay-yes.ensures in
    let before = c.loop-range.invariant in
    record {
      chooses = chooses-next c.args.ranges.now c.loop-range.range-index (record { low = 0; high = 0 }) c.loop-range-test.true c.len-no.ensures.value before.chooses before.leads near jump;
      leads = leads-later jump.extends (leads-near near before.leads);
      front = λ some. c.len-no.ensures.value;
    }
