use Rattle.std.proofs.lemmas.Bool.{OnTrue_at}
use Rattle.filtergen_code.specs.ValueLists.{in_ranges}
use Rattle.filtergen_code.proofs.Beyond.{fails-on, skips-over}
use Rattle.filtergen_code.proofs.code.Code.place_past_comparisons.Goals as goal

pub returns-then-ignores_accumulator-2 : goal.returns-then-ignores_accumulator-2
returns-then-ignores_accumulator-2 c =
    let numbers = in_ranges c.args.ranges.now in
    let passed = rw c.load_insn.ensures at c.place_after-after_load.ensures in
    let fails = fails-on numbers c.place_after-after_load.result c.place_after_mismatches-others.result c.nearest_return-beyond.result c.args.self.now c.place_after_mismatches-others.ensures c.nearest_return-beyond.ensures.leads in
    skips-over c.args.field numbers c.args.place c.place_after-after_load.result c.nearest_return-beyond.result c.args.self.now passed fails (OnTrue_at c.if-ignores_accumulator.true c.ignores_accumulator.ensures) (OnTrue_at c.if-ignores_accumulator-2.true c.ignores_accumulator-then-ignores_accumulator.ensures)
