use Rattle.std.proofs.Common.{refl}
use Rattle.filter_symbols.specs.declared.symbol.Symbol.{Symbol}
use Rattle.filter_symbols.specs.declared.symbol.Symbols.{Symbols}
use Rattle.filter_symbols.proofs.Stands.{extends_by}
use Rattle.filter_symbols.proofs.Guards.{wire-stands}
use Rattle.filter_symbols.proofs.symbol.Symbols.wire_length.Goals as goal

pub returns-clause-stands : goal.returns-clause-stands
returns-clause-stands c =
    let y = c.field.new.self in
    let z : Symbols = record { words = c.fixed.new.self; header = y.header } in
    let s : Symbol = record { guard = c.in_ok-guard.guard; word = c.in_ok-word.word } in
    wire-stands y z s (extends_by y z refl c.fixed.ensures.grew) c.in_ok-word.ensures.field c.in_ok-guard.ensures.says
