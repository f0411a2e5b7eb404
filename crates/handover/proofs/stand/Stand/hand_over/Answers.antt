use Rattle.std.proofs.Common.{[], ◌∷◌, Some, refl, arith, ap, ◌∙◌}
use Rattle.listener.specs.Messages.{arrival}
use Rattle.listener.specs.declared.answer.Fed.TheVariants.{Stored, Held, Closed}
use Rattle.handover.specs.declared.calls.Feed.TheVariants.{Arrive}
use Rattle.handover.specs.Allowed.{AllFit, Busy, Loud}
use Rattle.handover.specs.Rule.{terms_of, known}
use Rattle.handover.proofs.Paths.{capacity_is, went_late, opened, still, went_busy, slot_is, fresh_is, handing, holds_still, gives, went_loud, stored_so, sees_on, gave_sees, was_put}
use Rattle.handover.proofs.stand.Stand.hand_over.Goals as goal

pub returns-then-see_closed-ne0 : goal.returns-then-see_closed-ne0
returns-then-see_closed-ne0 g c = record {
  pair = c.see_closed.ensures.pair;
  went = went_late (known c.args.self.now.seat.me) _ c.args.self.now.store [] (Arrive (Some g.message) Closed) _ c.requires.0.stand.feeder c.see_closed.ensures.step c.if-see_closed-ne0.true c.see_closed.ensures.own refl;
  order = c.see_closed.ensures.order;
}

pub see_turn-full-requires-clause-busy : goal.see_turn-full-requires-clause-busy
see_turn-full-requires-clause-busy g c =
    let o = opened (known c.args.self.now.seat.me) _ c.args.self.now.store (Arrive (Some g.message) Closed) _ c.requires.0.stand.feeder c.see_closed.ensures.step c.if-see_closed-ne0.false c.see_closed.ensures.own in
    still _ _ _ (λ p s. Busy (terms_of p) s (Arrive (Some g.message) Stored)) o (c.requires.1.1, c.requires.1.0)

pub see_turn-full-requires-clause-fits : goal.see_turn-full-requires-clause-fits
see_turn-full-requires-clause-fits g c =
    let o = opened (known c.args.self.now.seat.me) _ c.args.self.now.store (Arrive (Some g.message) Closed) _ c.requires.0.stand.feeder c.see_closed.ensures.step c.if-see_closed-ne0.false c.see_closed.ensures.own in
    still _ _ _ (λ p s. AllFit p.capacity (Arrive (Some g.message) Stored ∷ [])) o (c.requires.0.small, tt)

pub returns-then-full : goal.returns-then-full
returns-then-full g c =
    let o = opened (known c.args.self.now.seat.me) _ c.args.self.now.store (Arrive (Some g.message) Closed) _ c.requires.0.stand.feeder c.see_closed.ensures.step c.if-see_closed-ne0.false c.see_closed.ensures.own in
    let cap = capacity_is (known c.args.self.now.seat.me) c.args.self.now.store c.requires.0.stand.feeder in
    let put = was_put c.put_ref-stored.result c.args.self.now.store _ (arrival c.args.packet.now.capture c.args.packet.now.place c.args.packet.now.packet.now) c.args.packet.now.kept g.message c.requires.0.message c.requires.0.captured
    (omega (arith, cap, c.requires.1.0)) c.put_ref-stored.ensures.fits.1 c.put_ref-stored.ensures.stored in
    let went = went_busy _ _ _ _ _ (Arrive (Some g.message) Stored) _ o c.see_turn-full.ensures.step c.if-full.true c.see_turn-full.ensures.own put in record {
      pair = c.see_turn-full.ensures.pair ∙ c.see_closed.ensures.pair;
      went = stored_so _ _ _ _ _ _ c.requires.1.1 went;
      order = sees_on c.args.self.now.seat.me.0 c.see_closed.new.seat.me.0 c.see_turn-full.new.seat.me.0 c.see_closed.ensures.order c.see_turn-full.ensures.order;
    }

pub swap_out-requires-clause-slot : goal.swap_out-requires-clause-slot
swap_out-requires-clause-slot g c =
    let o = opened (known c.args.self.now.seat.me) _ c.args.self.now.store (Arrive (Some g.message) Closed) _ c.requires.0.stand.feeder c.see_closed.ensures.step c.if-see_closed-ne0.false c.see_closed.ensures.own in
    slot_is _ _ _ _ (Arrive (Some g.message) Stored) _ o c.see_turn-full.ensures.step c.if-full.false

pub give_turn-requires-clause-giving : goal.give_turn-requires-clause-giving
give_turn-requires-clause-giving g c =
    let o = opened (known c.args.self.now.seat.me) _ c.args.self.now.store (Arrive (Some g.message) Closed) _ c.requires.0.stand.feeder c.see_closed.ensures.step c.if-see_closed-ne0.false c.see_closed.ensures.own in
    let cap = capacity_is (known c.args.self.now.seat.me) c.args.self.now.store c.requires.0.stand.feeder in
    let put = was_put c.put_ref-stored.result c.args.self.now.store _ (arrival c.args.packet.now.capture c.args.packet.now.place c.args.packet.now.packet.now) c.args.packet.now.kept g.message c.requires.0.message c.requires.0.captured
    (omega (arith, cap, c.requires.1.0)) c.put_ref-stored.ensures.fits.1 c.put_ref-stored.ensures.stored in
    let h = handing _ _ _ _ _ _ (Arrive (Some g.message) Stored) _ o c.see_turn-full.ensures.step c.if-full.false (ap known c.swap_out.ensures.seat) in
    gives _ _ _ _ (Arrive (Some g.message) Held) h put

pub give_turn-requires-clause-loud : goal.give_turn-requires-clause-loud
give_turn-requires-clause-loud g c =
    let o = opened (known c.args.self.now.seat.me) _ c.args.self.now.store (Arrive (Some g.message) Closed) _ c.requires.0.stand.feeder c.see_closed.ensures.step c.if-see_closed-ne0.false c.see_closed.ensures.own in
    let h = handing _ _ _ _ _ _ (Arrive (Some g.message) Stored) _ o c.see_turn-full.ensures.step c.if-full.false (ap known c.swap_out.ensures.seat) in
    holds_still _ _ _ _ _ (λ p s. Loud (terms_of p) s (Arrive (Some g.message) Held)) o h (c.requires.1.1, c.requires.1.0)

pub give_turn-requires-clause-fits : goal.give_turn-requires-clause-fits
give_turn-requires-clause-fits g c =
    let o = opened (known c.args.self.now.seat.me) _ c.args.self.now.store (Arrive (Some g.message) Closed) _ c.requires.0.stand.feeder c.see_closed.ensures.step c.if-see_closed-ne0.false c.see_closed.ensures.own in
    let h = handing _ _ _ _ _ _ (Arrive (Some g.message) Stored) _ o c.see_turn-full.ensures.step c.if-full.false (ap known c.swap_out.ensures.seat) in
    holds_still _ _ _ _ _ (λ p s. AllFit p.capacity (Arrive (Some g.message) Held ∷ [])) o h (c.requires.0.small, tt)

pub returns : goal.returns
returns g c =
    let o = opened (known c.args.self.now.seat.me) _ c.args.self.now.store (Arrive (Some g.message) Closed) _ c.requires.0.stand.feeder c.see_closed.ensures.step c.if-see_closed-ne0.false c.see_closed.ensures.own in record {
      pair = c.give_turn.ensures.pair ∙ c.swap_out.ensures.pair ∙ c.see_turn-full.ensures.pair ∙ c.see_closed.ensures.pair;
      went = went_loud _ _ _ _ _ _ _ _ (Arrive (Some g.message) Held) (Arrive (Some g.message) Stored) _ o c.see_turn-full.ensures.step c.if-full.false (ap known c.swap_out.ensures.seat) c.give_turn.ensures.step c.give_turn.ensures.own
          (fresh_is _ _ _ _ _ (Arrive (Some g.message) Stored) _ o c.see_turn-full.ensures.step c.if-full.false c.swap_out.ensures.store);
      order = gave_sees c.args.self.now.seat.me.0 c.see_closed.new.seat.me.0 c.see_turn-full.new.seat.me.0 c.swap_out.new.self.seat.me.0 c.give_turn.new.seat.me.0 c.see_closed.ensures.order c.see_turn-full.ensures.order (ap (λ m. m.0) c.swap_out.ensures.seat) c.give_turn.ensures.order;
    }
