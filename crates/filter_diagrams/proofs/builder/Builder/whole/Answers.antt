use Rattle.filter_diagrams.proofs.Walks.{program-means}
use Rattle.filter_diagrams.proofs.builder.Builder.whole.Goals as goal

pub returns-in-Some : goal.returns-in-Some
returns-in-Some c =
    let b = c.args.self.now.symbols in
    program-means b c.args.insns.now c.args.start.now c.in-Some.node c.requires.place c.requires.initial
    (c.in-Some.ensures b c.args.insns.now c.requires.spots c.requires.initial.words)
