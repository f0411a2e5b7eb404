use Rattle.std.proofs.Common.{take}
use Rattle.filtergen_facts.specs.Lists.{LeavesOut}
use Rattle.filtergen_facts.proofs.value_lists.OtherMembers.leave_out.Given as goal

abbrev pub invariant-loop-member : goal.invariant-loop-member
invariant-loop-member l = LeavesOut l.fn.kind l.fn.ranges (take l.member-index l.member-items) l.kept.items
