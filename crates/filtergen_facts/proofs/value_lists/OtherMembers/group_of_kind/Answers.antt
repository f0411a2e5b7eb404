use Rattle.filtergen_facts.proofs.Dividing.{groups-with}
use Rattle.filtergen_facts.proofs.Leaving.{leaves-all}
use Rattle.filtergen_facts.proofs.value_lists.OtherMembers.group_of_kind.Goals.{then-has_both_ports, else-has_both_ports}
use Rattle.filtergen_facts.proofs.value_lists.OtherMembers.group_of_kind.Goals as goal

pub returns-clause-groups : goal.returns-clause-groups
returns-clause-groups c =
    let first = c.args.first in
    let all = c.args.self.now.members.items in
    let ranges = c.push.new.self.items in
    let others = c.divide-ranges.new.self.members.items in
    let with_all = groups-with first all c.divide-ranges.result.items ranges others in
    elim c.if-has_both_ports.branch [
      | then-has_both_ports w ↦ rw w.self-is (with_all _ c.divide-ranges.ensures c.push.ensures.items (rw w.as_slice.ensures.value at w.leave_out.ensures))
      | else-has_both_ports w ↦ rw w.self-is (with_all _ c.divide-ranges.ensures c.push.ensures.items (leaves-all first.kind ranges others))
    ]
