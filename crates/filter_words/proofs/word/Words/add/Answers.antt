use Rattle.filter_bdd.proofs.Calls.{map-ok}
use Rattle.filter_words.proofs.Values.{add-calculates}
use Rattle.filter_words.proofs.word.Words.add.Goals as goal

pub returns-clause-calculates : goal.returns-clause-calculates
returns-clause-calculates c =
    map-ok c.sum.result (λ w h. add-calculates c.args.self.now.diagrams c.sum.new.self.diagrams c.args.first c.args.second w h) c.sum.ensures.value
