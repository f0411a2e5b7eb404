use Rattle.filter_bdd.proofs.Calls.{map-ok}
use Rattle.filter_words.proofs.Nodes.{joined-says}
use Rattle.filter_words.proofs.word.Words.join.Goals as goal

pub returns-clause-says : goal.returns-clause-says
returns-clause-says c =
    map-ok c.apply.result
    (λ i h. joined-says c.args.self.now.diagrams c.apply.new.self c.args.operation c.args.first c.args.second i c.requires.first c.requires.second h)
    c.apply.ensures.gives
