use Rattle.std.proofs.Common.{refl}
use Rattle.filter_meaning.specs.Meaning.{arithmetic_of}
use Rattle.filter_words.proofs.Nodes.{word_grown}
use Rattle.filter_symbols.specs.declared.symbol.Symbol.{Symbol}
use Rattle.filter_symbols.specs.declared.symbol.Symbols.{Symbols}
use Rattle.filter_symbols.proofs.Stands.{extends_by, grew_more}
use Rattle.filter_symbols.proofs.Guards.{calculated-stands}
use Rattle.filter_symbols.proofs.symbol.Symbols.calculate.Goals as goal

pub guard_operator-requires-clause-second : goal.guard_operator-requires-clause-second
guard_operator-requires-clause-second c =
    word_grown c.args.self.now.words.diagrams c.apply.new.self c.args.second.word
    (grew_more c.args.self.now.words.diagrams c.calculate_words.new.self.words.diagrams c.apply.new.self c.calculate_words.ensures.extends.grew c.apply.ensures.grew) c.requires.second.word

pub returns-clause-inside : goal.returns-clause-inside
returns-clause-inside c = record {
  guard = c.in_ok-guard.ensures.inside;
  word = word_grown c.calculate_words.new.self.words.diagrams c.guard_operator.new.self.words.diagrams c.in_ok-word.word
      (grew_more c.calculate_words.new.self.words.diagrams c.apply.new.self c.guard_operator.new.self.words.diagrams c.apply.ensures.grew c.guard_operator.ensures.extends.grew)
      c.in_ok-word.ensures.calculates.inside;
}

pub returns-clause-stands : goal.returns-clause-stands
returns-clause-stands c =
    let x = c.args.self.now in
    let y = c.calculate_words.new.self in
    let z : Symbols = record { words = record { diagrams = c.apply.new.self }; header = y.header } in
    let w = c.guard_operator.new.self in
    let s : Symbol = record { guard = c.in_ok-guard.guard; word = c.in_ok-word.word } in
    calculated-stands x y z w (arithmetic_of c.args.operator) c.args.first c.args.second s c.in_ok-both.both
    c.calculate_words.ensures.extends (extends_by y z refl c.apply.ensures.grew) c.guard_operator.ensures.extends c.requires.first c.requires.second
    c.in_ok-word.ensures.calculates c.in_ok-both.ensures.gives c.in_ok-guard.ensures.inside c.in_ok-guard.ensures.says
