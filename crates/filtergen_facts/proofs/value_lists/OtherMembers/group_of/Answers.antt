use Rattle.std.proofs.Common.{inl, inr, arith}
use Rattle.filtergen_facts.proofs.Joining.{groups-joined}
use Rattle.filtergen_facts.proofs.value_lists.OtherMembers.group_of.Goals as goal

pub returns-then-ask_for-clause-groups : goal.returns-then-ask_for-clause-groups
returns-then-ask_for-clause-groups c =
    let asked = rw c.as_slice.ensures.value at c.if-ask_for.ensures in
    rw (c.of_tcp_or_udp-group.ensures, c.clear.ensures)
    (groups-joined c.args.first c.args.self.now.members.items c.in-Some.other _ c.group_of_kind-group.result.ranges.items c.group_of_kind-group.new.self.members.items
    c.group_of_kind-group.ensures.groups c.in-Some.ensures asked (omega (arith, c.len.ensures.value, c.if-len-gt1.true)))

pub returns-in_default-clause-kind : goal.returns-in_default-clause-kind
returns-in_default-clause-kind c = inl c.group_of_kind-group.ensures.kind

pub returns-in_default-clause-primitive : goal.returns-in_default-clause-primitive
returns-in_default-clause-primitive c = c.group_of_kind-group.ensures.primitive

pub returns-in_default-clause-groups : goal.returns-in_default-clause-groups
returns-in_default-clause-groups c = rw c.group_of_kind-group.ensures.kind c.group_of_kind-group.ensures.groups

pub returns-then-ask_for-clause-kind : goal.returns-then-ask_for-clause-kind
returns-then-ask_for-clause-kind c = inr c.of_tcp_or_udp-group.ensures

pub returns-then-ask_for-clause-primitive : goal.returns-then-ask_for-clause-primitive
returns-then-ask_for-clause-primitive c = c.group_of_kind-group.ensures.primitive

pub returns-else-len-gt1-clause-kind : goal.returns-else-len-gt1-clause-kind
returns-else-len-gt1-clause-kind c = inl c.group_of_kind-group.ensures.kind

pub returns-else-len-gt1-clause-primitive : goal.returns-else-len-gt1-clause-primitive
returns-else-len-gt1-clause-primitive c = c.group_of_kind-group.ensures.primitive

pub returns-else-len-gt1-clause-groups : goal.returns-else-len-gt1-clause-groups
returns-else-len-gt1-clause-groups c = rw c.group_of_kind-group.ensures.kind c.group_of_kind-group.ensures.groups
