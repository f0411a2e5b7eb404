use Rattle.filter_tree.specs.Trees.{tree_of}
use Rattle.filtergen_facts.proofs.Settling.{asks-member}
use Rattle.filtergen_facts.proofs.value_lists.link_settles.Goals as goal

pub returns-in-Some : goal.returns-in-Some
returns-in-Some c = asks-member c.args.chain (tree_of c.args.expr.now) c.in-Some.member c.args.kind c.if-settles.ensures c.in-Some.ensures.same
