use Rattle.filter_symbols.proofs.Guards.{symbol_extended}
use Rattle.filter_diagrams.proofs.Builders.{map-ok}
use Rattle.filter_diagrams.proofs.Instructions.{calculated-by}
use Rattle.filter_diagrams.proofs.builder.Builder.calculated.Goals as goal

pub calculate-requires-clause-first : goal.calculate-requires-clause-first
calculate-requires-clause-first c =
    symbol_extended c.symbol_of.new.self.symbols c.symbol_of-2.new.self.symbols c.in_ok-left.left c.symbol_of-2.ensures.extends c.in_ok-left.ensures.stands.inside

pub returns-clause-stands : goal.returns-clause-stands
returns-clause-stands c =
    map-ok c.calculate.result
    (λ s h. calculated-by c.args.self.now.symbols c.symbol_of.new.self.symbols c.symbol_of-2.new.self.symbols c.calculate.new.self c.args.operator c.args.first c.args.second
    c.in_ok-left.left c.in_ok-right.right s c.symbol_of.ensures.extends c.symbol_of-2.ensures.extends c.requires.second
    c.in_ok-left.ensures.stands c.in_ok-right.ensures.stands h)
    c.calculate.ensures.stands
