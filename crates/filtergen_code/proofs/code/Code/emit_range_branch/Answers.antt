use Rattle.std.proofs.Common.{arith, ◌==◌, if◌then◌else◌, true, false, nat_lt, nat_le}
use Rattle.filter_meaning.specs.Meaning.{within}
use Rattle.filtergen_code.proofs.Runs.{chooses-same, chooses-more, chooses-both, chooses-not}
use Rattle.filtergen_facts.proofs.Members.{within-one}
use Rattle.filtergen_code.proofs.Sides.{within-bounds}
use Rattle.filtergen_code.proofs.code.Code.emit_range_branch.Goals as goal

pub returns-then-low-high : goal.returns-then-low-high
returns-then-low-high c =
    let low = c.args.low in
    let high = c.args.high in
    chooses-more 6 (omega arith)
    (chooses-same (λ r. r.accumulator == low) (λ r. within low high r.accumulator) (λ r. within-one low high r.accumulator c.if-low-high.true) c.emit_branch.ensures)

pub returns-else-low-high : goal.returns-else-low-high
returns-else-low-high c =
    let low = c.args.low in
    let high = c.args.high in
    let above = rw c.opposite.ensures at c.emit_branch-else-low-high.ensures in
    chooses-same _ (λ r. within low high r.accumulator) (λ r. within-bounds low high r.accumulator)
    (chooses-both (λ r. nat_le low r.accumulator) (λ r. if nat_lt high r.accumulator then false else true) c.requires.1 c.len-yes.ensures.value (chooses-not (λ r. nat_lt high r.accumulator) above) c.emit_branch-else-low-high-2.ensures)
