use Rattle.std.proofs.Common.{None, Some}
use Rattle.filter_tree.specs.Trees.{tree_of}
use Rattle.filtergen_facts.proofs.Members.{map-option, takes-none, takes-right, takes-negated}
use Rattle.filtergen_facts.proofs.value_lists.OtherMembers.+take_links.Goals as goal

pub returns-then-take_link : goal.returns-then-take_link
returns-then-take_link t c =
    let parts = c.in-AnyOf-Or in
    let right = rw (parts.is-0, c.deref.ensures) at c.if-take_link.ensures.taken in
    let left = rw (parts.is-0, c.deref-then-take_link.ensures) at c.take_links.ensures in
    rw (parts.is-0, parts.is-1)
    (map-option c.take_links.result left
    (λ others. takes-right (tree_of parts.left.value) (tree_of parts.right.value) None _ _ _ right others)
    (λ w others. takes-right (tree_of parts.left.value) (tree_of parts.right.value) (Some (tree_of w.now)) _ _ _ right others))

pub returns-then-take_link-2 : goal.returns-then-take_link-2
returns-then-take_link-2 t c =
    let parts = c.in-NoneOf-And in
    let right = rw (parts.is-0, c.deref-in-NoneOf-And.ensures) at c.if-take_link-2.ensures.taken in
    let left = rw (parts.is-0, c.deref-then-take_link-2.ensures) at c.take_links-then-take_link-2.ensures in
    rw (parts.is-0, parts.is-1)
    (map-option c.take_links-then-take_link-2.result left
    (λ others. takes-negated (tree_of parts.left.value) (tree_of parts.right.value) None _ _ _ right others)
    (λ w others. takes-negated (tree_of parts.left.value) (tree_of parts.right.value) (Some (tree_of w.now)) _ _ _ right others))

pub returns-then-most-eq0 : goal.returns-then-most-eq0
returns-then-most-eq0 t c = takes-none c.args.chain (tree_of c.args.expr.now) c.args.self.now.members.items

pub returns-else-take_link : goal.returns-else-take_link
returns-else-take_link t c = rw c.if-take_link.ensures.kept (takes-none c.args.chain (tree_of c.args.expr.now) c.args.self.now.members.items)

pub returns-else-take_link-2 : goal.returns-else-take_link-2
returns-else-take_link-2 t c = rw c.if-take_link-2.ensures.kept (takes-none c.args.chain (tree_of c.args.expr.now) c.args.self.now.members.items)
