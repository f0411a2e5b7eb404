use Rattle.std.proofs.Common.{sym, ap, ◌∙◌, true, if◌then◌else◌}
use Rattle.filtergen_code.proofs.Seeking.{found-more}
use Rattle.filtergen_code.proofs.value_lists.has_number.Goals.{then-is_within, else-is_within}
use Rattle.filtergen_code.proofs.value_lists.has_number.Goals as goal

pub loop-range-preserved : goal.loop-range-preserved
loop-range-preserved c =
    let i = c.loop-range.range-index in
    let old = c.loop-range.found in
    found-more c.args.ranges.now i (record { low = 0; high = 0 }) c.args.number c.is_within.result c.if-is_within.found old c.loop-range-test.true c.is_within.ensures c.loop-range.invariant
    (elim c.if-is_within.branch [ then-is_within w ↦ w.found-is ∙ sym (ap (λ b. if b then true else old) w.if-is_within.true) | else-is_within w ↦ w.found-is ∙ sym (ap (λ b. if b then true else old) w.if-is_within.false) ])
