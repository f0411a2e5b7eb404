use Rattle.std.proofs.Common.{◌≡◌, [], arith, refl, sym, ap, ◌∙◌, subst}
use Rattle.handover.specs.Ends.{FeedingEnded, AreCountsOfCalls, pair_lists}
use Rattle.handover.specs.Own.{store_of}
use Rattle.handover.specs.Rule.{witness}
use Rattle.handover.proofs.Steps.{joins, copies}
use Rattle.handover.proofs.Endings.{ends_well, ends_as, ends_legally, ends_rest, ends_counted, ends_whole}
use Rattle.handover.proofs.link.settle_bare.Goals as goal

pub join_seat-requires : goal.join_seat-requires
join_seat-requires c = (
  ap (λ f. f.pair) c.feeder.view_is ∙ c.requires.0 ∙ sym c.link.view_is,
  ap (λ d. d.pair) c.drain.view_is ∙ c.requires.1 ∙ sym c.link.view_is,
  c.drain.invariant.home,
  omega arith,
  joins _ _ _ _ _ c.feeder.invariant.0.role c.drain.invariant.role,
)

pub split_seat-witness-requires : goal.split_seat-witness-requires
split_seat-witness-requires c = (
  c.join_seat.ensures.0 ∙ ap (λ f. f.pair) c.feeder.view_is ∙ c.requires.0 ∙ sym c.link.view_is,
  omega arith,
  copies _ _ c.join_seat.new.seat.me.0 (ap (λ m. m.0.view.role) c.join_seat.ensures.2),
)

pub returns-clause-past : goal.returns-clause-past
returns-clause-past c =
    let v = c.feeder.inside.seat.me.0 in
    let w = c.drain.inside.seat.me.0 in
    let m = c.split_seat-witness.ensures.4 ∙ ap (λ m. (witness m.0, [])) c.join_seat.ensures.2 in
    let id = c.split_seat-witness.ensures.3 ∙ c.join_seat.ensures.0 ∙ ap (λ f. f.pair) c.feeder.view_is ∙ c.requires.0 in
    (λ i. pair_lists (id i) (m i).0.view.profile (m i).0.view.feeds (m i).0.view.feed_steps (m i).0.view.takes (m i).0.view.take_steps)
    ∙ (λ i. pair_lists c.args.link (c.feeder.view_is i).profile (c.feeder.view_is i).feeds (c.feeder.view_is i).steps (c.drain.view_is i).takes (c.drain.view_is i).steps)

pub returns-clause-history : goal.returns-clause-history
returns-clause-history c =
    let v = c.feeder.inside.seat.me.0 in
    let w = c.drain.inside.seat.me.0 in
    let e = ends_as v w _ _ _ _ _ _ c.feeder.view_is c.drain.view_is
    (ends_well _ _ v w _ _ _ c.take-hold.result (ap (λ m. m.0) (c.split_seat-witness.ensures.2 ∙ c.join_seat.ensures.2)) c.feeder.invariant.0.calm c.drain.invariant.calm c.close_with-closed.ensures.values.2 c.take-hold.ensures.value) in
    ends_legally _ _ _ _ e.0

pub returns-clause-order : goal.returns-clause-order
returns-clause-order c =
    let v = c.feeder.inside.seat.me.0 in
    let w = c.drain.inside.seat.me.0 in
    let e = ends_as v w _ _ _ _ _ _ c.feeder.view_is c.drain.view_is
    (ends_well _ _ v w _ _ _ c.take-hold.result (ap (λ m. m.0) (c.split_seat-witness.ensures.2 ∙ c.join_seat.ensures.2)) c.feeder.invariant.0.calm c.drain.invariant.calm c.close_with-closed.ensures.values.2 c.take-hold.ensures.value) in
    e.1

pub returns-clause-hold : goal.returns-clause-hold
returns-clause-hold c =
    let v = c.feeder.inside.seat.me.0 in
    let w = c.drain.inside.seat.me.0 in
    let e = ends_as v w _ _ _ _ _ _ c.feeder.view_is c.drain.view_is
    (ends_well _ _ v w _ _ _ c.take-hold.result (ap (λ m. m.0) (c.split_seat-witness.ensures.2 ∙ c.join_seat.ensures.2)) c.feeder.invariant.0.calm c.drain.invariant.calm c.close_with-closed.ensures.values.2 c.take-hold.ensures.value) in
    e.0.hold

pub returns-clause-rest : goal.returns-clause-rest
returns-clause-rest c =
    let v = c.feeder.inside.seat.me.0 in
    let w = c.drain.inside.seat.me.0 in
    let e = ends_as v w _ _ _ _ _ _ c.feeder.view_is c.drain.view_is
    (ends_well _ _ v w _ _ _ c.take-hold.result (ap (λ m. m.0) (c.split_seat-witness.ensures.2 ∙ c.join_seat.ensures.2)) c.feeder.invariant.0.calm c.drain.invariant.calm c.close_with-closed.ensures.values.2 c.take-hold.ensures.value) in
    let rest = ends_rest _ _ _ _ c.args.feeder.store e.0 (subst (λ (f : FeedingEnded). f.store ≡ store_of f.feeds) c.feeder.view_is refl) in
    rest

pub returns-clause-counts : goal.returns-clause-counts
returns-clause-counts c =
    let v = c.feeder.inside.seat.me.0 in
    let w = c.drain.inside.seat.me.0 in
    let e = ends_as v w _ _ _ _ _ _ c.feeder.view_is c.drain.view_is
    (ends_well _ _ v w _ _ _ c.take-hold.result (ap (λ m. m.0) (c.split_seat-witness.ensures.2 ∙ c.join_seat.ensures.2)) c.feeder.invariant.0.calm c.drain.invariant.calm c.close_with-closed.ensures.values.2 c.take-hold.ensures.value) in
    let counted = subst (λ (f : FeedingEnded). AreCountsOfCalls c.feeder.inside.counts f.feeds) c.feeder.view_is c.feeder.invariant.1 in
    (ends_counted _ _ _ _ _ e.0 counted, counted)

pub returns-clause-whole : goal.returns-clause-whole
returns-clause-whole c =
    let v = c.feeder.inside.seat.me.0 in
    let w = c.drain.inside.seat.me.0 in
    let e = ends_as v w _ _ _ _ _ _ c.feeder.view_is c.drain.view_is
    (ends_well _ _ v w _ _ _ c.take-hold.result (ap (λ m. m.0) (c.split_seat-witness.ensures.2 ∙ c.join_seat.ensures.2)) c.feeder.invariant.0.calm c.drain.invariant.calm c.close_with-closed.ensures.values.2 c.take-hold.ensures.value) in
    let rest = ends_rest _ _ _ _ c.args.feeder.store e.0 (subst (λ (f : FeedingEnded). f.store ≡ store_of f.feeds) c.feeder.view_is refl) in
    let counted = subst (λ (f : FeedingEnded). AreCountsOfCalls c.feeder.inside.counts f.feeds) c.feeder.view_is c.feeder.invariant.1 in
    ends_whole _ _ _ c.take-hold.result c.args.feeder.store c.feeder.inside.counts e.0 rest counted
