use Rattle.std.proofs.Common.{◌+◌, ◌*◌, subst, refl}
use Rattle.bpfvm.specs.Machine.{number_at}
use Rattle.filter_symbols.specs.Symbols.{StandsFor}
use Rattle.filter_symbols.specs.declared.symbol.Symbol.{Symbol}
use Rattle.filter_symbols.specs.declared.symbol.Symbols.{Symbols}
use Rattle.filter_symbols.proofs.Stands.{extends_by, field-grown, load-stands}
use Rattle.filter_symbols.proofs.symbol.Symbols.load_at.Goals as goal

pub returns-clause-stands : goal.returns-clause-stands
returns-clause-stands c =
    let x = c.field.new.self in
    let y : Symbols = record { words = record { diagrams = c.leaf.new.self }; header = x.header } in
    let s : Symbol = record { guard = c.in_ok-guard.guard; word = c.in_ok-word.word } in
    let o = c.args.offset in
    let n = c.bytes_of-bytes.result in
    subst (λ k. StandsFor y (λ p. number_at p.captured o k) s) c.bytes_of-bytes.ensures.size
    (load-stands y o n s c.bytes_of-bytes.ensures.some c.in_ok-guard.ensures.gives
    (field-grown x y (31 + 8 * (o + n)) (8 * n) s.word (extends_by x y refl c.leaf.ensures.grew) c.in_ok-word.ensures.field))
