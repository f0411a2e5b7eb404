use Rattle.filter_tree.specs.Trees.{tree_of}
use Rattle.filtergen_facts.proofs.Members.{takes-one}
use Rattle.filtergen_facts.proofs.value_lists.OtherMembers.take_link.Goals as goal

pub returns-in-Some-clause-taken : goal.returns-in-Some-clause-taken
returns-in-Some-clause-taken c =
    let told = c.in-Some.ensures in
    takes-one c.args.chain (tree_of c.args.expr.now) c.in-Some.member c.args.self.now.members.items c.push.new.self.items told.same told.weighs told.member c.push.ensures.items
