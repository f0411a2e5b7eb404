use Rattle.std.proofs.Common.{None, Some}
use Rattle.filter_tree.specs.Trees.{tree_of}
use Rattle.filtergen_facts.proofs.Members.{map-option, map-always}
use Rattle.filtergen_facts.proofs.Settling.{on-true}
use Rattle.filtergen_facts.proofs.Apart.{settled-free, apart-free}
use Rattle.filtergen_facts.proofs.value_lists.OtherMembers.are_free.Goals as goal

pub returns-then-are_settled : goal.returns-then-are_settled
returns-then-are_settled c =
    let others = c.args.self.now.members.items in
    on-true c.are_settled.result
    (λ settled. map-option c.args.left settled (settled-free c.args.chain None c.args.first others)
    (λ t. settled-free c.args.chain (Some (tree_of t.now)) c.args.first others))
    c.are_settled.ensures

pub returns-else-are_settled : goal.returns-else-are_settled
returns-else-are_settled c =
    let others = c.args.self.now.members.items in
    on-true c.are_apart.result
    (λ apart. map-always c.args.left (apart-free c.args.chain None c.args.first others apart)
    (λ t. apart-free c.args.chain (Some (tree_of t.now)) c.args.first others apart))
    c.are_apart.ensures
