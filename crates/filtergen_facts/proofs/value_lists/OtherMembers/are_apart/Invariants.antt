use Rattle.std.proofs.Common.{◌≡◌, ◌⊎◌, All, take}
use Rattle.filtergen_facts.proofs.value_lists.OtherMembers.are_apart.Given as goal

abbrev pub invariant-loop-member : goal.invariant-loop-member
invariant-loop-member l = All (λ m. (m.kind ≡ l.fn.kind) ⊎ (m.kind ≡ l.last.kind)) (take l.member-index l.member-items)
