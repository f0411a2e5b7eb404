use Rattle.std.proofs.Common.{refl}
use Rattle.filter_diagrams.proofs.Builders.{map-ok, extends_by, means-not}
use Rattle.filter_diagrams.proofs.builder.Builder.opposite.Goals as goal

pub returns-clause-means : goal.returns-clause-means
returns-clause-means c =
    map-ok c.apply.result
    (λ i h. means-not c.args.self.now.symbols c.leaf.new.self.symbols _ c.in_ok-yes.yes c.args.place i c.leaf.ensures.extends
    (extends_by c.leaf.new.self.symbols _ refl c.apply.ensures.grew) c.requires c.in_ok-yes.ensures.gives h)
    c.apply.ensures.gives

pub returns-clause-inside : goal.returns-clause-inside
returns-clause-inside c = map-ok c.apply.result (λ i h. h.inside) c.apply.ensures.gives
