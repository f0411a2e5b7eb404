use Rattle.filter_bdd.proofs.Calls.{map-ok}
use Rattle.filter_words.proofs.Nodes.{is_bit_grown, opposite-says}
use Rattle.filter_words.proofs.word.Words.opposite.Goals as goal

pub join-requires-clause-second : goal.join-requires-clause-second
join-requires-clause-second c = is_bit_grown c.args.self.now.diagrams c.fixed.new.self.diagrams c.args.node c.fixed.ensures.grew c.requires

pub returns-clause-says : goal.returns-clause-says
returns-clause-says c =
    map-ok c.join.result
    (λ i h. opposite-says c.args.self.now.diagrams c.fixed.new.self.diagrams c.join.new.self.diagrams c.in_ok-yes.yes c.args.node i
    c.fixed.ensures.grew c.requires c.in_ok-yes.ensures.says h)
    c.join.ensures.says
