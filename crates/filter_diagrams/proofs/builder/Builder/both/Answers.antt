use Rattle.std.proofs.Common.{refl}
use Rattle.filter_diagrams.proofs.Builders.{map-ok, extends_by, means-both}
use Rattle.filter_diagrams.proofs.builder.Builder.both.Goals as goal

pub returns-clause-means : goal.returns-clause-means
returns-clause-means c =
    map-ok c.apply.result
    (λ i h. means-both c.args.self.now.symbols _ c.args.first c.args.second i (extends_by c.args.self.now.symbols _ refl c.apply.ensures.grew) h) c.apply.ensures.gives

pub returns-clause-inside : goal.returns-clause-inside
returns-clause-inside c = map-ok c.apply.result (λ i h. h.inside) c.apply.ensures.gives
