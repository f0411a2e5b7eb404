use Rattle.std.proofs.Common.{arith}
use Rattle.filter_diagrams.proofs.Builders.{map-ok}
use Rattle.filter_same.proofs.Ends.{cut-keeps}
use Rattle.filter_same.proofs.cut.cut_at.Goals as goal

pub returns-clause-keeps : goal.returns-clause-keeps
returns-clause-keeps c =
    map-ok c.apply.result
    (λ i h. cut-keeps c.args.builder.now.symbols.words.diagrams c.compare.new.self c.apply.new.self c.args.place c.in_ok-long.long i c.from.result c.args.size
    c.compare.ensures.grew c.requires c.from.ensures (omega arith) c.in_ok-long.ensures.gives h)
    c.apply.ensures.gives
