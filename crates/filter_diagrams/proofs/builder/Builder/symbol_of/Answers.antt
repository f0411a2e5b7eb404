use Rattle.std.proofs.Common.{refl}
use Rattle.filter_symbols.specs.declared.symbol.Symbol.{Symbol}
use Rattle.filter_symbols.specs.declared.symbol.Symbols.{Symbols}
use Rattle.filter_diagrams.proofs.Builders.{extends_by}
use Rattle.filter_diagrams.proofs.Instructions.{word-stands}
use Rattle.filter_diagrams.proofs.builder.Builder.symbol_of.Goals as goal

pub returns-clause-stands : goal.returns-clause-stands
returns-clause-stands c =
    let a = c.args.self.now.symbols in
    let b : Symbols = record { words = c.fixed.new.self; header = a.header } in
    let s : Symbol = record { guard = c.in_ok-guard.guard; word = c.args.word } in
    word-stands a b c.args.word s (extends_by a b refl c.fixed.ensures.grew) c.requires c.in_ok-guard.ensures.says refl
