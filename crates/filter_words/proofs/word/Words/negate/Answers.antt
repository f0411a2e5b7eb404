use Rattle.filter_bdd.proofs.Calls.{map-ok}
use Rattle.filter_words.proofs.Nodes.{word_grown}
use Rattle.filter_words.proofs.Values.{negate-value}
use Rattle.filter_words.proofs.word.Words.negate.Goals as goal

pub subtract-requires-clause-first : goal.subtract-requires-clause-first
subtract-requires-clause-first c = c.in_ok-zero.ensures.value.inside

pub subtract-requires-clause-second : goal.subtract-requires-clause-second
subtract-requires-clause-second c = word_grown c.args.self.now.diagrams c.constant.new.self.diagrams c.args.word c.constant.ensures.grew c.requires

pub returns-clause-value : goal.returns-clause-value
returns-clause-value c =
    map-ok c.subtract.result
    (λ w h. negate-value c.args.self.now.diagrams c.constant.new.self.diagrams c.subtract.new.self.diagrams c.args.word c.in_ok-zero.zero w
    c.constant.ensures.grew c.requires c.in_ok-zero.ensures.value h)
    c.subtract.ensures.calculates

pub returns-clause-word : goal.returns-clause-word
returns-clause-word c = map-ok c.subtract.result (λ w h. h.inside) c.subtract.ensures.calculates
