use Rattle.std.proofs.Common.{None, Some, sym}
use Rattle.std.proofs.lemmas.List.Elements.{All-more}
use Rattle.filter_tree.specs.Trees.{tree_of}
use Rattle.filtergen_facts.specs.Lists.{Settles}
use Rattle.filtergen_facts.proofs.Members.{map-both, map-option, all-taken}
use Rattle.filtergen_facts.proofs.value_lists.OtherMembers.are_settled.Goals as goal

pub loop-member-preserved : goal.loop-member-preserved
loop-member-preserved c =
    let items = c.as_slice-member-items.result.now in
    let i = c.loop-member.member-index in
    map-both c.args.left c.loop-member.invariant c.if-not-is_settled.ensures
    (λ all one. All-more (λ m. Settles c.args.chain None c.args.first m.kind) items i _ c.loop-member-test.true all one)
    (λ t all one. All-more (λ m. Settles c.args.chain (Some (tree_of t.now)) c.args.first m.kind) items i _ c.loop-member-test.true all one)

pub returns : goal.returns
returns c =
    let items = c.as_slice-member-items.result.now in
    let i = c.loop-member.member-index in
    rw (sym c.as_slice-member-items.ensures.value)
    (map-option c.args.left c.loop-member.invariant
    (λ all. all-taken (λ m. Settles c.args.chain None c.args.first m.kind) items i c.loop-member-test.false all)
    (λ t all. all-taken (λ m. Settles c.args.chain (Some (tree_of t.now)) c.args.first m.kind) items i c.loop-member-test.false all))
