use Rattle.filter_bdd.proofs.Calls.{map-ok}
use Rattle.filter_words.proofs.Nodes.{word_grown}
use Rattle.test_words.proofs.caller.sum_is_above.Goals as goal

pub add-requires-clause-first : goal.add-requires-clause-first
add-requires-clause-first c = word_grown c.args.words.now.diagrams c.constant.new.self.diagrams c.args.first c.constant.ensures.grew c.requires.first

pub add-requires-clause-second : goal.add-requires-clause-second
add-requires-clause-second c = word_grown c.args.words.now.diagrams c.constant.new.self.diagrams c.args.second c.constant.ensures.grew c.requires.second

pub is_greater-requires-clause-first : goal.is_greater-requires-clause-first
is_greater-requires-clause-first c = c.in_ok-sum.ensures.calculates.inside

pub is_greater-requires-clause-second : goal.is_greater-requires-clause-second
is_greater-requires-clause-second c = word_grown c.constant.new.self.diagrams c.add.new.self.diagrams c.in_ok-most.most c.add.ensures.grew c.in_ok-most.ensures.value.inside

pub returns : goal.returns
returns c = map-ok c.is_greater.result (λ i h. h.inside) c.is_greater.ensures.says
