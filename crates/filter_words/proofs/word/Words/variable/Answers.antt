use Rattle.filter_bdd.proofs.Calls.{map-ok}
use Rattle.filter_words.proofs.Nodes.{variable-says}
use Rattle.filter_words.proofs.word.Words.variable.Goals as goal

pub returns-clause-says : goal.returns-clause-says
returns-clause-says c =
    map-ok c.branch-self.result
    (λ i h. variable-says c.fixed.new.self.diagrams c.fixed-2.new.self.diagrams c.branch-self.new.self c.args.name c.in_ok-no.no c.in_ok-yes.yes i
    c.fixed-2.ensures.grew c.in_ok-no.ensures.says c.in_ok-yes.ensures.says h)
    c.branch-self.ensures.gives
