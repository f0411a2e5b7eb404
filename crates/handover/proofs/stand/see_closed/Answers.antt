use Rattle.std.proofs.Common.{arith, sym, ◌∙◌}
use Rattle.handover.proofs.Steps.{sees_closed}
use Rattle.handover.proofs.stand.see_closed.Goals as goal

pub load-requires : goal.load-requires
load-requires g c = (c.requires.pair ∙ sym c.link.view_is, omega arith, sees_closed _ _ _ _ g.C.ClosedLoad.quiet g.C.ClosedLoad.late c.requires.calm.0 c.requires.calm.1 c.requires.calm.2 c.requires.quiet c.requires.late.0 c.requires.late.1)
