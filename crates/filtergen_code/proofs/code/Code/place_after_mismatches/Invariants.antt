use Rattle.filtergen_code.specs.ValueLists.{in_ranges, FailsTo}
use Rattle.filtergen_code.proofs.code.Code.place_after_mismatches.Given as goal

-- comparisons so far fail
abbrev pub invariant-loop-insn : goal.invariant-loop-insn
invariant-loop-insn l = FailsTo (in_ranges l.ranges) l.place l.at l.self

abbrev pub decreases-loop-insn : goal.decreases-loop-insn
decreases-loop-insn l = l.at
