use Rattle.filter_bdd.proofs.Calls.{map-ok}
use Rattle.filter_words.proofs.Nodes.{word_grown}
use Rattle.filter_words.proofs.Values.{subtract-calculates}
use Rattle.filter_words.proofs.word.Words.subtract.Goals as goal

pub sum-requires-clause-first : goal.sum-requires-clause-first
sum-requires-clause-first c = word_grown c.args.self.now.diagrams c.not.new.self.diagrams c.args.first c.not.ensures.grew c.requires.first

pub sum-requires-clause-second : goal.sum-requires-clause-second
sum-requires-clause-second c = c.in_ok-opposite.ensures.value.inside

pub returns-clause-calculates : goal.returns-clause-calculates
returns-clause-calculates c =
    map-ok c.sum.result
    (λ w h. subtract-calculates c.args.self.now.diagrams c.not.new.self.diagrams c.sum.new.self.diagrams c.args.first c.args.second c.in_ok-opposite.opposite w
    c.not.ensures.grew c.requires.first c.in_ok-opposite.ensures.value h)
    c.sum.ensures.value
