use Rattle.filter_words.proofs.Nodes.{word_grown}
use Rattle.filter_symbols.proofs.symbol.Symbols.any_symbol.Goals as goal

pub returns-clause-inside : goal.returns-clause-inside
returns-clause-inside c = record {
  guard = c.in_ok-guard.ensures.gives.inside;
  word = word_grown c.constant.new.self.diagrams c.leaf.new.self c.in_ok-word.word c.leaf.ensures.grew c.in_ok-word.ensures.value.inside;
}
