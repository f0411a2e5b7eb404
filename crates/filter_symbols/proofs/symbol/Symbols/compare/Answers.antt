use Rattle.std.proofs.Common.{refl}
use Rattle.filter_bdd.proofs.Calls.{map-ok}
use Rattle.filter_meaning.specs.Meaning.{compared}
use Rattle.filter_symbols.specs.declared.symbol.Symbols.{Symbols}
use Rattle.filter_symbols.proofs.Stands.{extends_by}
use Rattle.filter_symbols.proofs.Guards.{compared-says}
use Rattle.filter_symbols.proofs.symbol.Symbols.compare.Goals as goal

pub returns-clause-says : goal.returns-clause-says
returns-clause-says c =
    let x = c.args.self.now in
    let y = c.compare_words.new.self in
    let z : Symbols = record { words = record { diagrams = c.apply.new.self }; header = y.header } in
    let w : Symbols = record { words = record { diagrams = c.apply-2.new.self }; header = y.header } in
    map-ok c.apply-2.result
    (λ i h. compared-says x y z w (compared c.args.comparison) c.args.first c.args.second c.in_ok-holds.holds c.in_ok-both.both i
    c.compare_words.ensures.extends (extends_by y z refl c.apply.ensures.grew) (extends_by z w refl c.apply-2.ensures.grew) c.requires.first c.requires.second
    c.in_ok-holds.ensures.says c.in_ok-both.ensures.gives h)
    c.apply-2.ensures.gives
