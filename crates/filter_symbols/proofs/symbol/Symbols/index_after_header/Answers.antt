use Rattle.std.proofs.Common.{refl}
use Rattle.filter_bdd.proofs.Tables.{grown_inside}
use Rattle.filter_words.proofs.Nodes.{word_grown}
use Rattle.filter_symbols.specs.declared.symbol.Symbol.{Symbol}
use Rattle.filter_symbols.specs.declared.symbol.Symbols.{Symbols}
use Rattle.filter_symbols.proofs.Stands.{extends_by, grew_more}
use Rattle.filter_symbols.proofs.Guards.{header-stands}
use Rattle.filter_symbols.proofs.symbol.Symbols.index_after_header.Goals as goal

pub add-requires-clause-first : goal.add-requires-clause-first
add-requires-clause-first c = word_grown c.args.self.now.words.diagrams c.constant.new.self.diagrams c.args.index.word c.constant.ensures.grew c.requires.index.word

pub apply-requires-clause-first : goal.apply-requires-clause-first
apply-requires-clause-first c =
    let s = c.args.self.now.words.diagrams in
    let a = c.constant.new.self.diagrams in
    let b = c.add.new.self.diagrams in
    grown_inside s c.leaf.new.self c.args.index.guard
    (grew_more s b c.leaf.new.self (grew_more s a b c.constant.ensures.grew c.add.ensures.grew) c.leaf.ensures.grew) c.requires.index.guard

pub returns-clause-inside : goal.returns-clause-inside
returns-clause-inside c = record {
  guard = c.in_ok-guard.ensures.gives.inside;
  word = word_grown c.add.new.self.diagrams c.apply.new.self c.in_ok-word.word
      (grew_more c.add.new.self.diagrams c.leaf.new.self c.apply.new.self c.leaf.ensures.grew c.apply.ensures.grew) c.in_ok-word.ensures.calculates.inside;
}

pub returns-clause-stands : goal.returns-clause-stands
returns-clause-stands c =
    let x = c.args.self.now in
    let y : Symbols = record { words = c.constant.new.self; header = x.header } in
    let z : Symbols = record { words = c.add.new.self; header = x.header } in
    let u : Symbols = record { words = record { diagrams = c.leaf.new.self }; header = x.header } in
    let w : Symbols = record { words = record { diagrams = c.apply.new.self }; header = x.header } in
    let s : Symbol = record { guard = c.in_ok-guard.guard; word = c.in_ok-word.word } in
    header-stands x y z u w c.args.header c.args.index s c.in_ok-length.length c.in_ok-first.first
    (extends_by x y refl c.constant.ensures.grew) (extends_by y z refl c.add.ensures.grew) (extends_by z u refl c.leaf.ensures.grew) (extends_by u w refl c.apply.ensures.grew)
    c.requires.is c.requires.index c.in_ok-length.ensures.value c.in_ok-word.ensures.calculates c.in_ok-first.ensures.gives c.in_ok-guard.ensures.gives
