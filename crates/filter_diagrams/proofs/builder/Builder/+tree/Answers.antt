use Rattle.std.proofs.Common.{rules, ◌≡◌, ◌∙◌, ap}
use Rattle.filter_tree.specs.Trees.{tree_of}
use Rattle.filter_tree.specs.Trees as trees
use Rattle.filter_diagrams.proofs.Builders.{tree-both, tree-either, tree-not}
use Rattle.filter_diagrams.proofs.builder.Builder.+tree.Goals as goal

pub returns-in_ok-all-in-And-clause-means : goal.returns-in_ok-all-in-And-clause-means
returns-in_ok-all-in-And-clause-means t c =
    let x = c.deref-in-And.result.now in
    let y = c.deref-in-And-2.result.now in
    let l : c.in-And.left.value ≡ x = search rules in
    let r : c.in-And.right.value ≡ y = search rules in
    tree-both c.tree-in-And.new.self.symbols c.tree-in-And-2.new.self.symbols c.both.new.self.symbols (tree_of c.args.expr.now) (tree_of x) (tree_of y)
    c.in_ok-first-in-And.first c.in_ok-second-in-And.second c.in_ok-all-in-And.all
    (ap tree_of c.in-And.is ∙ ap (λ e. trees.both (tree_of e) (tree_of c.in-And.right.value)) l ∙ ap (λ e. trees.both (tree_of x) (tree_of e)) r)
    c.tree-in-And-2.ensures.extends c.in_ok-first-in-And.ensures.means c.in_ok-second-in-And.ensures.means c.in_ok-all-in-And.ensures.means

pub returns-in_ok-any-in-Or-clause-means : goal.returns-in_ok-any-in-Or-clause-means
returns-in_ok-any-in-Or-clause-means t c =
    let x = c.deref-in-Or.result.now in
    let y = c.deref-in-Or-2.result.now in
    let l : c.in-Or.left.value ≡ x = search rules in
    let r : c.in-Or.right.value ≡ y = search rules in
    tree-either c.tree-in-Or.new.self.symbols c.tree-in-Or-2.new.self.symbols c.either.new.self.symbols (tree_of c.args.expr.now) (tree_of x) (tree_of y)
    c.in_ok-one-in-Or.one c.in_ok-other-in-Or.other c.in_ok-any-in-Or.any
    (ap tree_of c.in-Or.is ∙ ap (λ e. trees.either (tree_of e) (tree_of c.in-Or.right.value)) l ∙ ap (λ e. trees.either (tree_of x) (tree_of e)) r)
    c.tree-in-Or-2.ensures.extends c.in_ok-one-in-Or.ensures.means c.in_ok-other-in-Or.ensures.means c.in_ok-any-in-Or.ensures.means

pub returns-in_ok-opposite-in-Not-clause-means : goal.returns-in_ok-opposite-in-Not-clause-means
returns-in_ok-opposite-in-Not-clause-means t c =
    let x = c.deref.result.now in
    let l : c.in-Not.operand.value ≡ x = search rules in
    tree-not c.tree.new.self.symbols c.opposite.new.self.symbols (tree_of c.args.expr.now) (tree_of x) c.in_ok-whole-in-Not.whole c.in_ok-opposite-in-Not.field-0
    (ap tree_of c.in-Not.is ∙ ap (λ e. trees.negation (tree_of e)) l) c.in_ok-whole-in-Not.ensures.means c.in_ok-opposite-in-Not.ensures.means
