use Rattle.std.proofs.Common.{refl}
use Rattle.filter_symbols.specs.declared.symbol.Symbol.{Symbol}
use Rattle.filter_symbols.specs.declared.symbol.Symbols.{Symbols}
use Rattle.filter_symbols.proofs.Stands.{extends_by}
use Rattle.filter_symbols.proofs.Guards.{number-stands}
use Rattle.filter_symbols.proofs.symbol.Symbols.number.Goals as goal

pub returns-clause-stands : goal.returns-clause-stands
returns-clause-stands c =
    let x = c.args.self.now in
    let y : Symbols = record { words = c.constant.new.self; header = x.header } in
    let z : Symbols = record { words = c.fixed.new.self; header = x.header } in
    let s : Symbol = record { guard = c.in_ok-guard.guard; word = c.in_ok-word.word } in
    number-stands y z c.args.number s (extends_by y z refl c.fixed.ensures.grew) c.in_ok-word.ensures.value c.in_ok-guard.ensures.says
