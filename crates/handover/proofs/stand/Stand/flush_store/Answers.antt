use Rattle.std.proofs.Common.{true, false, [], refl, subst, ap, ◌∙◌}
use Rattle.handover.specs.declared.calls.Feed.TheVariants.{Flush, FlushClosed}
use Rattle.handover.specs.Allowed.{Loud}
use Rattle.handover.specs.Rule.{terms_of, known}
use Rattle.handover.specs.Seated.{Went}
use Rattle.handover.proofs.Paths.{went_late, opened, went_busy, slot_is, fresh_is, handing, holds_still, gives, went_loud, kept_some, sees_on, gave_sees}
use Rattle.handover.proofs.stand.Stand.flush_store.Goals as goal

pub returns-then-see_closed-ne0 : goal.returns-then-see_closed-ne0
returns-then-see_closed-ne0 c = record {
  call = FlushClosed;
  answer = refl;
  made = record {
    pair = c.see_closed.ensures.pair;
    went = went_late (known c.args.self.now.seat.me) _ c.args.self.now.store [] FlushClosed _ c.requires.stand.feeder c.see_closed.ensures.step c.if-see_closed-ne0.true c.see_closed.ensures.own refl;
    order = c.see_closed.ensures.order;
  };
}

pub returns-then-see_turn-ne0 : goal.returns-then-see_turn-ne0
returns-then-see_turn-ne0 c =
    let o = opened (known c.args.self.now.seat.me) _ c.args.self.now.store FlushClosed _ c.requires.stand.feeder c.see_closed.ensures.step c.if-see_closed-ne0.false c.see_closed.ensures.own in
    let b = c.args.self.now.store in
    let went = went_busy (known c.args.self.now.seat.me) _ (known c.see_turn.new.seat.me) b b (Flush false) _ o c.see_turn.ensures.step c.if-see_turn-ne0.true c.see_turn.ensures.own refl in
    record {
      call = Flush false;
      answer = refl;
      made = record {
        pair = c.see_turn.ensures.pair ∙ c.see_closed.ensures.pair;
        went = subst (Went (known c.args.self.now.seat.me) (known c.see_turn.new.seat.me) b (Flush false)) (kept_some b.messages c.requires.store) went;
        order = sees_on c.args.self.now.seat.me.0 c.see_closed.new.seat.me.0 c.see_turn.new.seat.me.0 c.see_closed.ensures.order c.see_turn.ensures.order;
      };
    }

pub swap_out-requires-clause-slot : goal.swap_out-requires-clause-slot
swap_out-requires-clause-slot c =
    let o = opened (known c.args.self.now.seat.me) _ c.args.self.now.store FlushClosed _ c.requires.stand.feeder c.see_closed.ensures.step c.if-see_closed-ne0.false c.see_closed.ensures.own in
    slot_is _ _ _ _ (Flush false) _ o c.see_turn.ensures.step c.if-see_turn-ne0.false

pub give_turn-requires-clause-giving : goal.give_turn-requires-clause-giving
give_turn-requires-clause-giving c =
    let o = opened (known c.args.self.now.seat.me) _ c.args.self.now.store FlushClosed _ c.requires.stand.feeder c.see_closed.ensures.step c.if-see_closed-ne0.false c.see_closed.ensures.own in
    let h = handing _ _ _ _ _ _ (Flush false) _ o c.see_turn.ensures.step c.if-see_turn-ne0.false (ap known c.swap_out.ensures.seat) in
    gives _ _ _ _ (Flush true) h refl

pub give_turn-requires-clause-loud : goal.give_turn-requires-clause-loud
give_turn-requires-clause-loud c =
    let o = opened (known c.args.self.now.seat.me) _ c.args.self.now.store FlushClosed _ c.requires.stand.feeder c.see_closed.ensures.step c.if-see_closed-ne0.false c.see_closed.ensures.own in
    let h = handing _ _ _ _ _ _ (Flush false) _ o c.see_turn.ensures.step c.if-see_turn-ne0.false (ap known c.swap_out.ensures.seat) in
    holds_still _ _ _ _ _ (λ p s. Loud (terms_of p) s (Flush true)) o h c.requires.store

pub returns : goal.returns
returns c =
    let o = opened (known c.args.self.now.seat.me) _ c.args.self.now.store FlushClosed _ c.requires.stand.feeder c.see_closed.ensures.step c.if-see_closed-ne0.false c.see_closed.ensures.own in
    record {
      call = Flush true;
      answer = refl;
      made = record {
        pair = c.give_turn.ensures.pair ∙ c.swap_out.ensures.pair ∙ c.see_turn.ensures.pair ∙ c.see_closed.ensures.pair;
        went = went_loud _ _ _ _ _ _ _ _ (Flush true) (Flush false) _ o c.see_turn.ensures.step c.if-see_turn-ne0.false (ap known c.swap_out.ensures.seat) c.give_turn.ensures.step c.give_turn.ensures.own
            (fresh_is _ _ _ _ _ (Flush false) _ o c.see_turn.ensures.step c.if-see_turn-ne0.false c.swap_out.ensures.store);
        order = gave_sees c.args.self.now.seat.me.0 c.see_closed.new.seat.me.0 c.see_turn.new.seat.me.0 c.swap_out.new.self.seat.me.0 c.give_turn.new.seat.me.0 c.see_closed.ensures.order c.see_turn.ensures.order (ap (λ m. m.0) c.swap_out.ensures.seat) c.give_turn.ensures.order;
      };
    }
