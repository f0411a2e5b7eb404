use Rattle.std.proofs.Common.{length, take}
use Rattle.filtergen_facts.specs.Lists.{AskFor}
use Rattle.filtergen_facts.proofs.value_lists.OtherMembers.ask_for.Given as goal

abbrev pub invariant-loop-member : goal.invariant-loop-member
invariant-loop-member l = AskFor l.kind (take (length l.yielded) l.ranges) (take (length l.yielded) l.self.members.items)
