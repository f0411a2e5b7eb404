use Rattle.std.proofs.Common.{[], ◌∷◌, None, refl}
use Rattle.listener.specs.declared.answer.Fed.TheVariants.{Passed, Closed}
use Rattle.handover.specs.declared.calls.Feed.TheVariants.{Arrive}
use Rattle.handover.proofs.Paths.{went_late, went_quiet}
use Rattle.handover.specs.Rule.{known}
use Rattle.handover.proofs.stand.Stand.pass.Goals as goal

pub returns-then-see_closed-eq0 : goal.returns-then-see_closed-eq0
returns-then-see_closed-eq0 c = record {
  pair = c.see_closed.ensures.pair;
  went = went_quiet (known c.args.self.now.seat.me) _ c.args.self.now.store _ (Arrive None Passed) (Arrive None Closed) _ c.requires.feeder c.see_closed.ensures.step c.if-see_closed-eq0.true c.see_closed.ensures.own refl;
  order = c.see_closed.ensures.order;
}

pub returns-else-see_closed-eq0 : goal.returns-else-see_closed-eq0
returns-else-see_closed-eq0 c = record {
  pair = c.see_closed.ensures.pair;
  went = went_late (known c.args.self.now.seat.me) _ c.args.self.now.store (Arrive None Passed ∷ []) (Arrive None Closed) _ c.requires.feeder c.see_closed.ensures.step c.if-see_closed-eq0.false c.see_closed.ensures.own refl;
  order = c.see_closed.ensures.order;
}
