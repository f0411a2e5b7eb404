use Rattle.std.proofs.Common.{sym, ◌∙◌, arith}
use Rattle.filtergen_code.specs.ValueLists.{in_ranges}
use Rattle.filtergen_code.proofs.Beyond.{fails-next}
use Rattle.filtergen_code.proofs.code.Code.place_after_mismatches.Goals as goal

pub overflow_sub-at : goal.overflow_sub-at
overflow_sub-at c =
    let inside = c.insn_at-insn.ensures.jump c.if-insn-ne-JEQ_K.false in
    omega (arith, inside, c.from.ensures)

pub loop-insn-preserved : goal.loop-insn-preserved
loop-insn-preserved c =
    rw c.from.ensures
    (fails-next (in_ranges c.args.ranges.now) c.args.place c.loop-insn.at c.args.self.now c.insn_at-insn.result (c.insn_at-insn.ensures.jump c.if-insn-ne-JEQ_K.false) c.insn_at-insn.ensures.here
    c.if-insn-ne-JEQ_K.false (sym c.has_number.ensures ∙ c.if-has_number.false) c.loop-insn.invariant)
