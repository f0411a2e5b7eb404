use Rattle.filter_bdd.proofs.Calls.{map-ok}
use Rattle.filter_words.proofs.Nodes.{chosen-says}
use Rattle.filter_words.proofs.word.Words.choice.Goals as goal

pub returns-clause-says : goal.returns-clause-says
returns-clause-says c =
    map-ok c.ite.result
    (λ i h. chosen-says c.args.self.now.diagrams c.ite.new.self c.args.test c.args.yes c.args.no i c.requires.test c.requires.yes c.requires.no h)
    c.ite.ensures.gives
