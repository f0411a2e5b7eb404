use Rattle.filter_diagrams.proofs.Builders.{map-ok, choice-says}
use Rattle.filter_diagrams.proofs.builder.Builder.choice.Goals as goal

pub returns-clause-says : goal.returns-clause-says
returns-clause-says c = map-ok c.ite.result (λ i h p b said. choice-says c.args.self.now.symbols c.ite.new.self c.args.holds c.args.yes c.args.no i h p b said) c.ite.ensures.gives

pub returns-clause-inside : goal.returns-clause-inside
returns-clause-inside c = map-ok c.ite.result (λ i h. h.inside) c.ite.ensures.gives
