use Rattle.std.proofs.Common.{All, None, Some, take}
use Rattle.std.specs.Option.{MatchOption}
use Rattle.filter_tree.specs.Trees.{tree_of}
use Rattle.filtergen_facts.specs.Lists.{Settles}
use Rattle.filtergen_facts.proofs.value_lists.OtherMembers.are_settled.Given as goal

abbrev pub invariant-loop-member : goal.invariant-loop-member
invariant-loop-member l = MatchOption l.fn.left
    (All (λ m. Settles l.fn.chain None l.fn.first m.kind) (take l.member-index l.member-items))
    (λ t. All (λ m. Settles l.fn.chain (Some (tree_of t.now)) l.fn.first m.kind) (take l.member-index l.member-items))
