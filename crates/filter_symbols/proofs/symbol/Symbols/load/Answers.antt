use Rattle.std.proofs.Common.{true, refl}
use Rattle.filter_words.proofs.Nodes.{is-bit, word_grown}
use Rattle.filter_bdd.proofs.Tables.{grown_inside}
use Rattle.filter_symbols.specs.declared.load.Access.{Access}
use Rattle.filter_symbols.specs.declared.symbol.Symbol.{Symbol}
use Rattle.filter_symbols.specs.declared.symbol.Symbols.{Symbols}
use Rattle.filter_symbols.proofs.Stands.{extends_by, grew_more}
use Rattle.filter_symbols.proofs.Guards.{load-whole, load-all}
use Rattle.filter_symbols.proofs.symbol.Symbols.load.Goals as goal

pub load_each-requires-clause-index : goal.load_each-requires-clause-index
load_each-requires-clause-index c = word_grown c.args.self.now.words.diagrams c.fixed.new.self.diagrams c.args.index.word c.fixed.ensures.grew c.requires.word

pub load_each-requires-clause-condition : goal.load_each-requires-clause-condition
load_each-requires-clause-condition c = is-bit c.fixed.new.self.diagrams (λ v. true) c.in_ok-always.always c.in_ok-always.ensures.says

pub load_each-requires-clause-known : goal.load_each-requires-clause-known
load_each-requires-clause-known c = λ v said. load-all c.fixed.new.self.diagrams c.args.index.word v

pub apply-requires-clause-first : goal.apply-requires-clause-first
apply-requires-clause-first c =
    grown_inside c.args.self.now.words.diagrams c.load_each.new.self.words.diagrams c.args.index.guard
    (grew_more c.args.self.now.words.diagrams c.fixed.new.self.diagrams c.load_each.new.self.words.diagrams c.fixed.ensures.grew c.load_each.ensures.extends.grew) c.requires.guard

pub returns-clause-inside : goal.returns-clause-inside
returns-clause-inside c = record {
  guard = c.in_ok-guard.ensures.gives.inside;
  word = word_grown c.load_each.new.self.words.diagrams c.apply.new.self c.in_ok-read.read.word c.apply.ensures.grew c.in_ok-read.ensures.reads.inside.word;
}

pub returns-clause-stands : goal.returns-clause-stands
returns-clause-stands c =
    let x = c.args.self.now in
    let y : Symbols = record { words = c.fixed.new.self; header = x.header } in
    let z = c.load_each.new.self in
    let w : Symbols = record { words = record { diagrams = c.apply.new.self }; header = z.header } in
    let access : Access = record { index = c.args.index.word; base = c.args.base; size = c.args.size } in
    let s : Symbol = record { guard = c.in_ok-guard.guard; word = c.in_ok-read.read.word } in
    load-whole x y z w c.args.index c.in_ok-read.read s access c.in_ok-always.always
    (extends_by x y refl c.fixed.ensures.grew) c.load_each.ensures.extends (extends_by z w refl c.apply.ensures.grew)
    refl c.in_ok-always.ensures.says c.in_ok-read.ensures.reads c.in_ok-guard.ensures.gives refl
