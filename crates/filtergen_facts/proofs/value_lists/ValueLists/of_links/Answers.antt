use Rattle.std.proofs.Common.{◌≡◌, ◌++◌, ◌∷◌, [], None, Some, ap, ◌∙◌, option_to_list}
use Rattle.filter_tree.specs.Trees.{tree_of}
use Rattle.filtergen_facts.proofs.Members.{map-both, ends-in}
use Rattle.filtergen_facts.proofs.value_lists.ValueLists.of_links.Goals as goal

pub returns-then-are_free : goal.returns-then-are_free
returns-then-are_free c =
    let first = c.in_ok-first.first in
    let all = c.take_links-rest.new.self.members.items in
    let others = c.pop.new.self.members.items in
    let t = tree_of c.args.left.now in
    let u = tree_of c.args.right.now in
    let one = c.take_link.new.self.members.items in
    let right = rw c.new-members.ensures at c.if-not-take_link.ensures.taken in
    let parts : all ≡ others ++ (first ∷ []) = c.pop.ensures.items ∙ ap (λ o. others ++ option_to_list o) c.in_ok-first.was in
    map-both c.take_links-rest.result c.take_links-rest.ensures c.if-are_free.ensures
    (λ takes free. ends-in c.args.chain t u None first one all others right takes parts c.pop.ensures.room free)
    (λ rest takes free. ends-in c.args.chain t u (Some (tree_of rest.now)) first one all others right takes parts c.pop.ensures.room free)
