use Rattle.std.proofs.Common.{refl}
use Rattle.filter_diagrams.proofs.Builders.{map-ok, extends_by}
use Rattle.filter_same.proofs.Ends.{apart-unless}
use Rattle.filter_same.proofs.find.clash.Goals as goal

pub returns-clause-says : goal.returns-clause-says
returns-clause-says c =
    map-ok c.apply.result
    (λ i h. apart-unless c.args.builder.now.symbols _ c.args.left c.args.right i (extends_by c.args.builder.now.symbols _ refl c.apply.ensures.grew) h) c.apply.ensures.gives

pub returns-clause-inside : goal.returns-clause-inside
returns-clause-inside c = map-ok c.apply.result (λ i h. h.inside) c.apply.ensures.gives
