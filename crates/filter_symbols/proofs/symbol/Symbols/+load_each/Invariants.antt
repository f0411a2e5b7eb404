use Rattle.filter_symbols.proofs.symbol.Symbols.+load_each.Given as goal

abbrev pub decreases-load_each : goal.decreases-load_each
decreases-load_each l = l.place
