use Rattle.std.proofs.Common.{rules, ◌≡◌, ◌∙◌, ap}
use Rattle.filter_tree.specs.Trees.{amount_of}
use Rattle.filter_tree.specs.Trees as trees
use Rattle.filter_meaning.specs.Meaning.{in_layer, in_layers}
use Rattle.filter_diagrams.proofs.Builders.{map-ok}
use Rattle.filter_diagrams.proofs.Layers.{layers-as, layers-both}
use Rattle.filter_diagrams.proofs.builder.Builder.+in_layers.Goals as goal

pub returns-in-Negation-clause-means : goal.returns-in-Negation-clause-means
returns-in-Negation-clause-means t c =
    let x = c.deref.result.now in
    let l : c.in-Negation.operand.value ≡ x = search rules in
    map-ok c.in_layers.result
    (λ i h. layers-as c.in_layers.new.self.symbols (amount_of c.args.value.now) (amount_of x) i
    (ap (λ v. in_layers (amount_of v)) c.in-Negation.is ∙ ap (λ e. in_layers (amount_of e)) l) h)
    c.in_layers.ensures.means

pub returns-in_ok-second-in-Binary-clause-means : goal.returns-in_ok-second-in-Binary-clause-means
returns-in_ok-second-in-Binary-clause-means t c =
    let x = c.deref-in-Binary.result.now in
    let y = c.deref-in-Binary-2.result.now in
    let o = c.in-Binary.field-0 in
    let l : c.in-Binary.left.value ≡ x = search rules in
    let r : c.in-Binary.right.value ≡ y = search rules in
    map-ok c.both.result
    (λ i h. layers-both c.in_layers-in-Binary.new.self.symbols c.in_layers-in-Binary-2.new.self.symbols c.both.new.self.symbols (amount_of c.args.value.now)
    (in_layers (amount_of x)) (in_layers (amount_of y)) c.in_ok-first-in-Binary.first c.in_ok-second-in-Binary.second i
    (ap (λ v. in_layers (amount_of v)) c.in-Binary.is ∙ ap (λ e. in_layers (trees.binary o (amount_of e) (amount_of c.in-Binary.right.value))) l ∙ ap (λ e. in_layers (trees.binary o (amount_of x) (amount_of e))) r)
    c.in_layers-in-Binary-2.ensures.extends c.in_ok-first-in-Binary.ensures.means c.in_ok-second-in-Binary.ensures.means h)
    c.both.ensures.means

pub returns-in_ok-inner-in-Accessor-clause-means : goal.returns-in_ok-inner-in-Accessor-clause-means
returns-in_ok-inner-in-Accessor-clause-means t c =
    let x = c.deref-in-Accessor.result.now in
    let layer = c.in-Accessor.layer in
    let size = c.in-Accessor.field-2 in
    let l : c.in-Accessor.index.value ≡ x = search rules in
    map-ok c.both-in-Accessor.result
    (λ i h. layers-both c.in_layer.new.self.symbols c.in_layers-in-Accessor.new.self.symbols c.both-in-Accessor.new.self.symbols (amount_of c.args.value.now)
    (in_layer layer) (in_layers (amount_of x)) c.in_ok-outer-in-Accessor.outer c.in_ok-inner-in-Accessor.inner i
    (ap (λ v. in_layers (amount_of v)) c.in-Accessor.is ∙ ap (λ e. in_layers (trees.accessor layer (amount_of e) size)) l)
    c.in_layers-in-Accessor.ensures.extends c.in_ok-outer-in-Accessor.ensures.means c.in_ok-inner-in-Accessor.ensures.means h)
    c.both-in-Accessor.ensures.means
