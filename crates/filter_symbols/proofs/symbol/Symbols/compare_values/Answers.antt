use Rattle.filter_tree.specs.Trees.{amount_of}
use Rattle.filter_meaning.specs.Meaning.{value}
use Rattle.filter_symbols.proofs.Guards.{symbol_extended, stands-grown}
use Rattle.filter_symbols.proofs.symbol.Symbols.compare_values.Goals as goal

pub compare-requires-clause-first : goal.compare-requires-clause-first
compare-requires-clause-first c =
    symbol_extended c.symbol_of.new.self c.symbol_of-2.new.self c.in_ok-first.first c.symbol_of-2.ensures.extends c.in_ok-first.ensures.stands.inside

pub returns-clause-says : goal.returns-clause-says
returns-clause-says c =
    c.in_ok-holds.ensures.says (value (amount_of c.args.left.now)) (value (amount_of c.args.right.now))
    (stands-grown c.symbol_of.new.self c.symbol_of-2.new.self (value (amount_of c.args.left.now)) c.in_ok-first.first c.symbol_of-2.ensures.extends c.in_ok-first.ensures.stands)
    c.in_ok-second.ensures.stands
