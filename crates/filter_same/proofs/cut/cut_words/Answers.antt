use Rattle.filter_diagrams.proofs.Builders.{map-ok}
use Rattle.filter_same.proofs.Ends.{header-keeps}
use Rattle.filter_same.proofs.cut.cut_words.Goals as goal

pub returns-clause-keeps : goal.returns-clause-keeps
returns-clause-keeps c =
    map-ok c.apply.result
    (λ i h. header-keeps c.args.builder.now.symbols.words.diagrams c.compare.new.self c.apply.new.self c.args.place c.in_ok-header.header i c.from.result c.args.words
    c.compare.ensures.grew c.requires.place c.from.ensures c.requires.words c.in_ok-header.ensures.gives h)
    c.apply.ensures.gives
