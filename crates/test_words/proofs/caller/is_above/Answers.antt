use Rattle.filter_words.proofs.Nodes.{word_grown}
use Rattle.test_words.proofs.caller.is_above.Goals as goal

pub sum_is_above-requires-clause-first : goal.sum_is_above-requires-clause-first
sum_is_above-requires-clause-first c =
    word_grown c.constant.new.self.diagrams c.constant-2.new.self.diagrams c.in_ok-first.first c.constant-2.ensures.grew c.in_ok-first.ensures.value.inside

pub sum_is_above-requires-clause-second : goal.sum_is_above-requires-clause-second
sum_is_above-requires-clause-second c = c.in_ok-second.ensures.value.inside
