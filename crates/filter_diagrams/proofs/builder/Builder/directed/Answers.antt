use Rattle.filter_diagrams.proofs.builder.Builder.directed.Goals as goal

pub returns-in-SrcOrDst-clause-means : goal.returns-in-SrcOrDst-clause-means
returns-in-SrcOrDst-clause-means c = rw c.in-SrcOrDst.is c.either.ensures.means

pub returns-in-SrcAndDst-clause-means : goal.returns-in-SrcAndDst-clause-means
returns-in-SrcAndDst-clause-means c = rw c.in-SrcAndDst.is c.both.ensures.means
