use Rattle.filter_bdd.proofs.Calls.{map-ok}
use Rattle.filter_words.proofs.Nodes.{word_grown}
use Rattle.filter_symbols.proofs.Guards.{divisor-says}
use Rattle.filter_symbols.proofs.symbol.Symbols.guard_divisor.Goals as goal

pub is_equal-requires-clause-first : goal.is_equal-requires-clause-first
is_equal-requires-clause-first c = word_grown c.args.self.now.words.diagrams c.constant.new.self.diagrams c.args.divisor c.constant.ensures.grew c.requires.divisor

pub returns-clause-says : goal.returns-clause-says
returns-clause-says c =
    map-ok c.ite.result
    (λ i h p. divisor-says c.args.self.now.words.diagrams c.constant.new.self.diagrams c.is_equal.new.self.diagrams c.leaf.new.self c.ite.new.self
    c.args.divisor c.in_ok-zero.zero c.in_ok-none.none c.in_ok-never.never c.args.guard i p
    c.constant.ensures.grew c.is_equal.ensures.grew c.leaf.ensures.grew c.requires.divisor c.requires.guard
    c.in_ok-zero.ensures.value c.in_ok-none.ensures.says c.in_ok-never.ensures.gives h)
    c.ite.ensures.gives
