use Rattle.std.proofs.Common.{None, Some}
use Rattle.filter_tree.specs.Trees.{tree_of}
use Rattle.filtergen_facts.proofs.Members.{map-always}
use Rattle.filtergen_facts.proofs.Settling.{settles-first, settles-left}
use Rattle.filtergen_facts.proofs.value_lists.is_settled.Goals as goal

pub returns-then-settles : goal.returns-then-settles
returns-then-settles c =
    map-always c.args.left (settles-first c.args.chain None c.args.first c.args.kind c.if-settles.ensures)
    (λ t. settles-first c.args.chain (Some (tree_of t.now)) c.args.first c.args.kind c.if-settles.ensures)

pub returns-in-Some : goal.returns-in-Some
returns-in-Some c = rw c.in-Some.is (settles-left c.args.chain (tree_of c.in-Some.left.now) c.args.first c.args.kind c.if-chain_settles.ensures)
