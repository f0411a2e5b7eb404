use Rattle.std.proofs.Common.{[], ◌∷◌, Some, refl, arith}
use Rattle.listener.specs.Messages.{arrival}
use Rattle.listener.specs.declared.answer.Fed.TheVariants.{Stored, Closed}
use Rattle.handover.specs.declared.calls.Feed.TheVariants.{Arrive}
use Rattle.handover.specs.Rule.{known}
use Rattle.handover.proofs.Paths.{capacity_is, went_late, went_quiet, stored_so, was_put}
use Rattle.handover.proofs.stand.Stand.keep.Goals as goal

pub returns-then-see_closed-ne0 : goal.returns-then-see_closed-ne0
returns-then-see_closed-ne0 g c =
    record {
      pair = c.see_closed.ensures.pair;
      went = went_late (known c.args.self.now.seat.me) _ c.args.self.now.store (Arrive (Some g.message) Stored ∷ []) (Arrive (Some g.message) Closed) _ c.requires.0.stand.feeder c.see_closed.ensures.step c.if-see_closed-ne0.true c.see_closed.ensures.own refl;
      order = c.see_closed.ensures.order;
    }

pub returns : goal.returns
returns g c =
    let cap = capacity_is (known c.args.self.now.seat.me) c.args.self.now.store c.requires.0.stand.feeder in
    let put = was_put c.put_ref-stored.result c.args.self.now.store _ (arrival c.args.packet.now.capture c.args.packet.now.place c.args.packet.now.packet.now) c.args.packet.now.kept g.message c.requires.0.message c.requires.0.captured
    (omega (arith, cap, c.requires.1.0)) c.put_ref-stored.ensures.fits.1 c.put_ref-stored.ensures.stored in
    let went = went_quiet (known c.args.self.now.seat.me) _ c.args.self.now.store _ (Arrive (Some g.message) Stored) (Arrive (Some g.message) Closed) _ c.requires.0.stand.feeder c.see_closed.ensures.step c.if-see_closed-ne0.false c.see_closed.ensures.own put in
    record { pair = c.see_closed.ensures.pair; went = stored_so _ _ _ _ _ _ c.requires.1.1 went; order = c.see_closed.ensures.order }
