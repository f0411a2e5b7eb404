use Rattle.std.proofs.Common.{sym, subst}
use Rattle.filter_diagrams.specs.Walks.{AreNodes}
use Rattle.filter_diagrams.proofs.Walks.{nodes-kept}
use Rattle.filter_diagrams.proofs.spots.Spots.keep.Goals as goal

pub returns-clause-kept : goal.returns-clause-kept
returns-clause-kept c = λ b insns h n.
    nodes-kept b insns c.self.inside.nodes.items c.push.new.self.items c.args.spot c.args.node
    c.in-Ok.ensures.items (subst (AreNodes b insns) (sym c.self.view_is) h) n
