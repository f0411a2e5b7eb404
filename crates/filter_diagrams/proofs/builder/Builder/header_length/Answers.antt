use Rattle.filter_symbols.proofs.Guards.{symbol_extended}
use Rattle.filter_diagrams.proofs.Instructions.{header-length}
use Rattle.filter_diagrams.proofs.builder.Builder.header_length.Goals as goal

pub calculate-requires-clause-first : goal.calculate-requires-clause-first
calculate-requires-clause-first c =
    symbol_extended c.load_at.new.self c.number.new.self c.in_ok-first.first c.number.ensures.extends c.in_ok-first.ensures.stands.inside

pub calculate-requires-2-clause-first : goal.calculate-requires-2-clause-first
calculate-requires-2-clause-first c =
    symbol_extended c.calculate.new.self c.number-2.new.self c.in_ok-words.words c.number-2.ensures.extends c.in_ok-words.ensures.inside

pub returns-clause-stands : goal.returns-clause-stands
returns-clause-stands c =
    header-length c.load_at.new.self c.number.new.self c.calculate.new.self c.number-2.new.self c.calculate-2.new.self c.args.offset
    c.in_ok-first.first c.in_ok-mask.mask c.in_ok-words.words c.in_ok-four.four c.in_ok-length.length c.number.ensures.extends c.number-2.ensures.extends
    c.in_ok-first.ensures.stands c.in_ok-mask.ensures.stands c.in_ok-words.ensures.stands c.in_ok-four.ensures.stands c.in_ok-length.ensures.stands
