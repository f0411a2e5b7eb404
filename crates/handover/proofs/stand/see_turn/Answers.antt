use Rattle.std.proofs.Common.{arith, sym, ◌∙◌}
use Rattle.handover.proofs.Steps.{sees_turn}
use Rattle.handover.proofs.stand.see_turn.Goals as goal

pub load-requires : goal.load-requires
load-requires g c = (c.requires.pair ∙ sym c.link.view_is, omega arith, sees_turn _ _ _ _ g.C.Call.call c.requires.calm.0 c.requires.calm.1 c.requires.calm.2 c.requires.unclosed c.requires.busy c.requires.fits)
