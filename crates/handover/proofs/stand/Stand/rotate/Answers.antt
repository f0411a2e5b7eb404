use Rattle.std.proofs.Common.{[], ◌∷◌, Some, refl, arith, ap, ◌∙◌}
use Rattle.listener.specs.Messages.{arrival}
use Rattle.listener.specs.declared.answer.Fed.TheVariants.{Rotated, Dropped, Closed}
use Rattle.handover.specs.declared.calls.Feed.TheVariants.{Arrive}
use Rattle.handover.specs.Allowed.{AllFit, Busy, Loud}
use Rattle.handover.specs.Rule.{terms_of, known}
use Rattle.handover.proofs.Paths.{capacity_is, went_late, opened, still, went_busy, slot_is, fresh_is, handing, holds_still, gives, went_loud, was_put, first_put, first_fits, sees_on, gave_sees}
use Rattle.handover.proofs.stand.Stand.rotate.Goals as goal

pub returns-then-see_closed-ne0 : goal.returns-then-see_closed-ne0
returns-then-see_closed-ne0 g c = record {
  pair = c.see_closed.ensures.pair;
  went = went_late (known c.args.self.now.seat.me) _ c.args.self.now.store [] (Arrive (Some g.message) Closed) _ c.requires.0.stand.feeder c.see_closed.ensures.step c.if-see_closed-ne0.true c.see_closed.ensures.own refl;
  order = c.see_closed.ensures.order;
}

pub see_turn-requires-clause-busy : goal.see_turn-requires-clause-busy
see_turn-requires-clause-busy g c =
    let o = opened (known c.args.self.now.seat.me) _ c.args.self.now.store (Arrive (Some g.message) Closed) _ c.requires.0.stand.feeder c.see_closed.ensures.step c.if-see_closed-ne0.false c.see_closed.ensures.own in
    still _ _ _ (λ p s. Busy (terms_of p) s (Arrive (Some g.message) Dropped)) o c.requires.1

pub see_turn-requires-clause-fits : goal.see_turn-requires-clause-fits
see_turn-requires-clause-fits g c =
    let o = opened (known c.args.self.now.seat.me) _ c.args.self.now.store (Arrive (Some g.message) Closed) _ c.requires.0.stand.feeder c.see_closed.ensures.step c.if-see_closed-ne0.false c.see_closed.ensures.own in
    still _ _ _ (λ p s. AllFit p.capacity (Arrive (Some g.message) Dropped ∷ [])) o (c.requires.0.small, tt)

pub returns-then-see_turn-ne0 : goal.returns-then-see_turn-ne0
returns-then-see_turn-ne0 g c =
    let o = opened (known c.args.self.now.seat.me) _ c.args.self.now.store (Arrive (Some g.message) Closed) _ c.requires.0.stand.feeder c.see_closed.ensures.step c.if-see_closed-ne0.false c.see_closed.ensures.own in record {
      pair = c.see_turn.ensures.pair ∙ c.see_closed.ensures.pair;
      went = went_busy _ _ _ _ _ (Arrive (Some g.message) Dropped) _ o c.see_turn.ensures.step c.if-see_turn-ne0.true c.see_turn.ensures.own refl;
      order = sees_on c.args.self.now.seat.me.0 c.see_closed.new.seat.me.0 c.see_turn.new.seat.me.0 c.see_closed.ensures.order c.see_turn.ensures.order;
    }

pub swap_out-requires-clause-slot : goal.swap_out-requires-clause-slot
swap_out-requires-clause-slot g c =
    let o = opened (known c.args.self.now.seat.me) _ c.args.self.now.store (Arrive (Some g.message) Closed) _ c.requires.0.stand.feeder c.see_closed.ensures.step c.if-see_closed-ne0.false c.see_closed.ensures.own in
    slot_is _ _ _ _ (Arrive (Some g.message) Dropped) _ o c.see_turn.ensures.step c.if-see_turn-ne0.false

pub give_turn-requires-clause-giving : goal.give_turn-requires-clause-giving
give_turn-requires-clause-giving g c =
    let o = opened (known c.args.self.now.seat.me) _ c.args.self.now.store (Arrive (Some g.message) Closed) _ c.requires.0.stand.feeder c.see_closed.ensures.step c.if-see_closed-ne0.false c.see_closed.ensures.own in
    let h = handing _ _ _ _ _ _ (Arrive (Some g.message) Dropped) _ o c.see_turn.ensures.step c.if-see_turn-ne0.false (ap known c.swap_out.ensures.seat) in
    gives _ _ _ _ (Arrive (Some g.message) Rotated) h refl

pub give_turn-requires-clause-loud : goal.give_turn-requires-clause-loud
give_turn-requires-clause-loud g c =
    let o = opened (known c.args.self.now.seat.me) _ c.args.self.now.store (Arrive (Some g.message) Closed) _ c.requires.0.stand.feeder c.see_closed.ensures.step c.if-see_closed-ne0.false c.see_closed.ensures.own in
    let h = handing _ _ _ _ _ _ (Arrive (Some g.message) Dropped) _ o c.see_turn.ensures.step c.if-see_turn-ne0.false (ap known c.swap_out.ensures.seat) in
    holds_still _ _ _ _ _ (λ p s. Loud (terms_of p) s (Arrive (Some g.message) Rotated)) o h (c.requires.0.small, c.requires.1)

pub give_turn-requires-clause-fits : goal.give_turn-requires-clause-fits
give_turn-requires-clause-fits g c =
    let o = opened (known c.args.self.now.seat.me) _ c.args.self.now.store (Arrive (Some g.message) Closed) _ c.requires.0.stand.feeder c.see_closed.ensures.step c.if-see_closed-ne0.false c.see_closed.ensures.own in
    let h = handing _ _ _ _ _ _ (Arrive (Some g.message) Dropped) _ o c.see_turn.ensures.step c.if-see_turn-ne0.false (ap known c.swap_out.ensures.seat) in
    holds_still _ _ _ _ _ (λ p s. AllFit p.capacity (Arrive (Some g.message) Rotated ∷ [])) o h (c.requires.0.small, tt)

pub returns : goal.returns
returns g c =
    let o = opened (known c.args.self.now.seat.me) _ c.args.self.now.store (Arrive (Some g.message) Closed) _ c.requires.0.stand.feeder c.see_closed.ensures.step c.if-see_closed-ne0.false c.see_closed.ensures.own in
    let b = c.args.self.now.store in
    let cap = capacity_is (known c.args.self.now.seat.me) b c.requires.0.stand.feeder in
    let fresh = fresh_is _ _ _ _ _ (Arrive (Some g.message) Dropped) _ o c.see_turn.ensures.step c.if-see_turn-ne0.false c.swap_out.ensures.store in
    let fits = first_fits b _ g.message fresh (omega (arith, cap, c.requires.0.small)) in
    let put = was_put c.put_ref-stored.result c.swap_out.new.self.store _ (arrival c.args.packet.now.capture c.args.packet.now.place c.args.packet.now.packet.now) c.args.packet.now.kept g.message c.requires.0.message c.requires.0.captured
    fits c.put_ref-stored.ensures.fits.1 c.put_ref-stored.ensures.stored in record {
      pair = c.give_turn.ensures.pair ∙ c.swap_out.ensures.pair ∙ c.see_turn.ensures.pair ∙ c.see_closed.ensures.pair;
      went = went_loud _ _ _ _ _ _ _ _ (Arrive (Some g.message) Rotated) (Arrive (Some g.message) Dropped) _ o c.see_turn.ensures.step c.if-see_turn-ne0.false (ap known c.swap_out.ensures.seat) c.give_turn.ensures.step c.give_turn.ensures.own
          (first_put b _ _ g.message fresh put);
      order = gave_sees c.args.self.now.seat.me.0 c.see_closed.new.seat.me.0 c.see_turn.new.seat.me.0 c.swap_out.new.self.seat.me.0 c.give_turn.new.seat.me.0 c.see_closed.ensures.order c.see_turn.ensures.order (ap (λ m. m.0) c.swap_out.ensures.seat) c.give_turn.ensures.order;
    }
