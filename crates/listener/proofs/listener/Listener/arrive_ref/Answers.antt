use Rattle.std.proofs.Common.{ℕ, ◌≡◌, ◌+◌, ◌++◌, ◌∷◌, [], refl, ap, ◌∙◌, arith}
use Rattle.listener.specs.Messages.{cut_to, arrival, size, room}
use Rattle.listener.specs.Buffers.{Filled}
use Rattle.listener.specs.PlainList.{terms}
use Rattle.listener.proofs.Rooms.{room_nil}
use Rattle.listener.proofs.ArriveSteps.{size_cut, steps_dropped, steps_stored, steps_held, steps_rotated, some_in, over_by, not_by, on_true}
use Rattle.listener.proofs.listener.Listener.arrive_ref.Goals as goal

pub returns-then-at_once : goal.returns-then-at_once
returns-then-at_once c =
    let l = c.self.inside in
    let kept = c.in-Some.kept in
    let a = arrival c.args.capture c.args.place c.args.packet.now in
    let x = cut_to kept a in
    let k = c.in-Some.ensures.kept c.args.capture c.args.place in
    let size_is = size_cut a kept k.captured in
    let put = c.if-stored.ensures.stored in
    let fits = c.if-stored.ensures.fits.0 refl in
    let h = c.if-at_once.ensures.0 refl in
    rw (← c.self.view_is, c.swap.ensures.x_after, c.swap.ensures.y_after) (record {
      steps = steps_held (terms l.store.capacity l.mode) l.hold.messages l.store.messages l.counts.received l.counts.matched l.counts.dropped l.closed c.if-self.false x _ k.message c.put_ref-stored.new.self.messages (omega (arith, size_is, fits)) h.0 h.1 (ap (λ (b : Filled). b.messages) put);
      program = refl;
      snap = refl;
      terms = ap (λ (n : ℕ). terms n l.mode) c.self.invariant.0;
    })

pub returns-then-stored : goal.returns-then-stored
returns-then-stored c =
    let l = c.self.inside in
    let kept = c.in-Some.kept in
    let a = arrival c.args.capture c.args.place c.args.packet.now in
    let x = cut_to kept a in
    let k = c.in-Some.ensures.kept c.args.capture c.args.place in
    let size_is = size_cut a kept k.captured in
    let put = c.if-stored.ensures.stored in
    let fits = c.if-stored.ensures.fits.0 refl in
    rw (← c.self.view_is) (record {
      steps = steps_stored (terms l.store.capacity l.mode) l.hold.messages l.store.messages l.counts.received l.counts.matched l.counts.dropped l.closed c.if-self.false x _ k.message c.put_ref-stored.new.self.messages (omega (arith, size_is, fits)) (not_by c.hands_over-at_once.result _ c.if-at_once.false c.hands_over-at_once.ensures.1) (ap (λ (b : Filled). b.messages) put);
      program = refl;
      snap = refl;
      terms = ap (λ (b : Filled). terms b.capacity l.mode) put;
    })

pub returns-then-not-free : goal.returns-then-not-free
returns-then-not-free c =
    let l = c.self.inside in
    let kept = c.in-Some.kept in
    let a = arrival c.args.capture c.args.place c.args.packet.now in
    let x = cut_to kept a in
    let k = c.in-Some.ensures.kept c.args.capture c.args.place in
    let size_is = size_cut a kept k.captured in
    let same = c.if-stored.ensures.unchanged refl in
    let over = over_by c.put_ref-stored.result (room l.store.messages + size kept) l.store.capacity c.if-stored.false c.put_ref-stored.ensures.fits.1 in
    rw (← c.self.view_is, same) (record {
      steps = steps_dropped (terms l.store.capacity l.mode) l.hold.messages l.store.messages l.counts.received l.counts.matched l.counts.dropped l.closed c.if-self.false x _ k.message (omega (arith, size_is, over)) (some_in l.hold.messages (not_by c.is_empty-free.result _ c.if-not-free.true c.is_empty-free.ensures.1));
      program = refl;
      snap = refl;
      terms = refl;
    })

pub returns : goal.returns
returns c =
    let l = c.self.inside in
    let kept = c.in-Some.kept in
    let a = arrival c.args.capture c.args.place c.args.packet.now in
    let x = cut_to kept a in
    let k = c.in-Some.ensures.kept c.args.capture c.args.place in
    let size_is = size_cut a kept k.captured in
    let same = c.if-stored.ensures.unchanged refl in
    let over = over_by c.put_ref-stored.result (room l.store.messages + size kept) l.store.capacity c.if-stored.false c.put_ref-stored.ensures.fits.1 in
    let none : l.hold.messages ≡ [] = c.is_empty-free.ensures.0 c.if-not-free.false in
    let fresh : c.swap-2.new.x ≡ l.hold = c.swap-2.ensures.x_after in
    let old_store : c.swap-2.new.y ≡ l.store = c.swap-2.ensures.y_after ∙ same in
    let room_is : room c.swap-2.new.x.messages ≡ 0 = ap (λ (b : Filled). room b.messages) fresh ∙ ap room none ∙ room_nil in
    let capacity_is : c.swap-2.new.x.capacity ≡ l.store.capacity = ap (λ (b : Filled). b.capacity) fresh ∙ c.self.invariant.0 in
    let in_range = c.self.invariant.3 in
    let done = c.put_ref-moved.ensures.fits.1 (omega (arith, room_is, capacity_is, in_range.room, k.within)) in
    let put = on_true c.put_ref-moved.result _ done c.put_ref-moved.ensures.stored in
    rw (← c.self.view_is, old_store) (record {
      steps = steps_rotated (terms l.store.capacity l.mode) l.hold.messages l.store.messages l.counts.received l.counts.matched l.counts.dropped l.closed c.if-self.false x _ k.message c.put_ref-moved.new.self.messages (omega (arith, size_is, over)) none (ap (λ (b : Filled). b.messages) put ∙ ap (λ (b : Filled). b.messages ++ x ∷ []) fresh);
      program = refl;
      snap = refl;
      terms = ap (λ (b : Filled). terms b.capacity l.mode) put ∙ ap (λ (n : ℕ). terms n l.mode) capacity_is;
    })

pub put_ref-stored-requires : goal.put_ref-stored-requires
put_ref-stored-requires c =
    let k = c.in-Some.ensures.kept c.args.capture c.args.place in
    let in_range = c.self.invariant.3 in
    record { captured = k.captured; writable = omega (arith, k.within, in_range.most) }

pub put_ref-moved-requires : goal.put_ref-moved-requires
put_ref-moved-requires c =
    let k = c.in-Some.ensures.kept c.args.capture c.args.place in
    let in_range = c.self.invariant.3 in
    record { captured = k.captured; writable = omega (arith, k.within, in_range.most) }
