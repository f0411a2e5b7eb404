use Rattle.std.proofs.Common.{arith}
use Rattle.filter_bdd.proofs.Calls.{map-ok}
use Rattle.filter_symbols.proofs.Stands.{bit-field}
use Rattle.filter_symbols.proofs.symbol.Symbols.field_bit.Goals as goal

pub returns-then-place-width-clause-bit : goal.returns-then-place-width-clause-bit
returns-then-place-width-clause-bit c =
    map-ok c.bit_named.result
    (λ i h. bit-field c.bit_named.new.self c.args.last c.args.width c.args.place i (omega arith) c.requires h)
    c.bit_named.ensures.bit
