use Rattle.filter_tree.specs.Trees.{tree_of}
use Rattle.filtergen_facts.proofs.Settling.{on-true, asks-right, asks-left, asks-second, asks-first}
use Rattle.filtergen_facts.proofs.value_lists.+chain_settles.Goals as goal

pub returns-then-link_settles : goal.returns-then-link_settles
returns-then-link_settles t c =
    let parts = c.in-AnyOf-Or in
    let right = rw (parts.is-0, c.deref.ensures) at c.link_settles.ensures in
    rw (parts.is-0, parts.is-1) (on-true c.link_settles.result (asks-right (tree_of parts.left.value) (tree_of parts.right.value) c.args.kind) right)

pub returns-then-links-gt0 : goal.returns-then-links-gt0
returns-then-links-gt0 t c =
    let parts = c.in-AnyOf-Or in
    let left = rw (parts.is-0, c.deref-then-links-gt0.ensures) at c.chain_settles.ensures in
    rw (parts.is-0, parts.is-1) (on-true c.chain_settles.result (asks-left (tree_of parts.left.value) (tree_of parts.right.value) c.args.kind) left)

pub returns-then-link_settles-2 : goal.returns-then-link_settles-2
returns-then-link_settles-2 t c =
    let parts = c.in-NoneOf-And in
    let right = rw (parts.is-0, c.deref-in-NoneOf-And.ensures) at c.link_settles-in-NoneOf-And.ensures in
    rw (parts.is-0, parts.is-1) (on-true c.link_settles-in-NoneOf-And.result (asks-second (tree_of parts.left.value) (tree_of parts.right.value) c.args.kind) right)

pub returns-then-links-gt0-2 : goal.returns-then-links-gt0-2
returns-then-links-gt0-2 t c =
    let parts = c.in-NoneOf-And in
    let left = rw (parts.is-0, c.deref-then-links-gt0-2.ensures) at c.chain_settles-then-links-gt0-2.ensures in
    rw (parts.is-0, parts.is-1) (on-true c.chain_settles-then-links-gt0-2.result (asks-first (tree_of parts.left.value) (tree_of parts.right.value) c.args.kind) left)
