use Rattle.std.proofs.Common.{arith, sym, ◌∙◌}
use Rattle.handover.proofs.Steps.{sets_turn}
use Rattle.handover.proofs.stand.give_turn.Goals as goal

pub store-requires : goal.store-requires
store-requires g c =
    let h = c.requires.giving in
    (c.requires.pair ∙ sym c.link.view_is, omega arith, sets_turn _ _ _ _ g.C.Call.call h.role h.busy h.ended h.unclosed c.requires.loud c.requires.fits h.slot)
