use Rattle.std.proofs.Common.{take}
use Rattle.filtergen_facts.specs.Lists.{Divides}
use Rattle.filtergen_facts.proofs.value_lists.OtherMembers.divide.Given as goal

abbrev pub invariant-loop-member : goal.invariant-loop-member
invariant-loop-member l = Divides l.fn.kind (take l.member-index l.member-items) l.ranges.items l.others.items
