use Rattle.std.proofs.Common.{arith}
use Rattle.filter_bdd.proofs.Calls.{map-ok}
use Rattle.filter_symbols.proofs.Stands.{bit-fixed}
use Rattle.filter_symbols.specs.declared.symbol.Symbols.{Symbols}
use Rattle.filter_symbols.proofs.symbol.Symbols.bit_named.Goals as goal

pub returns-in-Some-clause-bit : goal.returns-in-Some-clause-bit
returns-in-Some-clause-bit c =
    let x : Symbols = record { words = c.fixed.new.self; header = c.args.self.now.header } in
    map-ok c.fixed.result
    (λ i h. bit-fixed x c.is_set.result c.in-Some.words c.args.name i c.in-Some.is c.is_set.ensures (omega arith) (omega arith) h)
    c.fixed.ensures.says
