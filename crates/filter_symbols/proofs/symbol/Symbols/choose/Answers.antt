use Rattle.std.proofs.Common.{true, false}
use Rattle.filter_words.proofs.Nodes.{word_grown}
use Rattle.filter_symbols.specs.declared.symbol.Symbol.{Symbol}
use Rattle.filter_symbols.proofs.Accesses.{chosen-is}
use Rattle.filter_symbols.proofs.symbol.Symbols.choose.Goals as goal

pub returns-clause-inside : goal.returns-clause-inside
returns-clause-inside c = record {
  guard = c.in_ok-guard.ensures.gives.inside;
  word = word_grown c.select.new.self.diagrams c.ite.new.self c.in_ok-word.word c.ite.ensures.grew c.in_ok-word.ensures.value.inside;
}

pub returns-clause-one : goal.returns-clause-one
returns-clause-one c =
    let s : Symbol = record { guard = c.in_ok-guard.guard; word = c.in_ok-word.word } in
    chosen-is c.args.self.now.words.diagrams c.select.new.self.diagrams c.ite.new.self c.args.test c.args.one c.args.zero s
    c.select.ensures.grew c.ite.ensures.grew c.requires.test c.requires.one c.requires.zero c.in_ok-word.ensures.value c.in_ok-guard.ensures.gives true

pub returns-clause-zero : goal.returns-clause-zero
returns-clause-zero c =
    let s : Symbol = record { guard = c.in_ok-guard.guard; word = c.in_ok-word.word } in
    chosen-is c.args.self.now.words.diagrams c.select.new.self.diagrams c.ite.new.self c.args.test c.args.one c.args.zero s
    c.select.ensures.grew c.ite.ensures.grew c.requires.test c.requires.one c.requires.zero c.in_ok-word.ensures.value c.in_ok-guard.ensures.gives false
