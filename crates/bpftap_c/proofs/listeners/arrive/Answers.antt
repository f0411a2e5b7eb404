use Rattle.std.proofs.Common.{◌≡◌, ◌∷◌, ◌++◌, [], ℕ, ◌+◌, length, take, ap, sym, ◌∙◌, subst, refl, arith, length-take}
use Rattle.listener.specs.declared.mode.Mode.TheVariants.{Immediate}
use Rattle.listener.specs.Listening.{InRange}
use Rattle.listener.specs.Messages.{cut_to, size, room}
use Rattle.listener.specs.PlainList.{terms}
use Rattle.listener.proofs.ArriveSteps.{on_true, over_by, size_cut, steps_dropped, steps_held, steps_rotated, steps_stored}
use Rattle.listener.proofs.Rooms.{room_nil}
use Rattle.bpftap_c.specs.declared.buffers.BpftapBuffer.{BpftapBuffer}
use Rattle.bpftap_c.specs.Buffers.{arrival_of, capacity, memory, messages}
use Rattle.bpftap_c.specs.Listeners.{is_closed, kept_by_answer, mode_of, terms_of}
use Rattle.bpftap_c.proofs.Buffering.{none_in, some_in}
use Rattle.bpftap_c.proofs.Stepping.{immediate, kept_cut, not_immediate, open_now}
use Rattle.bpftap_c.proofs.listeners.arrive.Goals as goal
use Rattle.bpftap_c.proofs.listeners.arrive.Goals.{then-listener-eq0-via-then-listener-eq0, then-listener-eq0-via-else-listener-eq0+then-listener-ne0-2}

pub returns-then-listener-eq0 : goal.returns-then-listener-eq0
returns-then-listener-eq0 c =
    let l = c.args.listener.now in
    let own = c.requires.listener in
    let is = own.if_open c.if-listener-ne0.false in
    let a = arrival_of c.args.capture c.args.packet.now c.args.bytes.now in
    let kept = c.min-kept.result in
    let x = cut_to kept a in
    let seen = kept_cut c.args.answer l.snap kept a (omega (arith, c.if-answer-eq0.false)) (omega (arith, c.min-kept.ensures, c.min-most.ensures)) in
    let captured = size_cut a kept (omega (arith, c.min-kept.ensures)) in
    let long : length (take kept c.args.bytes.now) ≡ kept = omega (arith, length-take kept c.args.bytes.now, c.min-kept.ensures) in
    let put = c.if-stored.ensures in
    let fits = put.fits.0 refl in
    let apart : (mode_of l.mode ≡ Immediate) × (messages l.hold ≡ []) → ⊥ = λ h. elim c.then-listener-eq0.branch [
      | then-listener-eq0-via-then-listener-eq0 w ↦ not_immediate l.mode w.if-listener-eq0.true h.0
      | then-listener-eq0-via-else-listener-eq0+then-listener-ne0-2 w ↦ omega (arith, some_in l.hold own.hold (omega (arith, w.if-listener-ne0-2)), ap length h.1)
    ] in
    record {
      steps = steps_stored (terms_of l) (messages l.hold) (messages l.store) l.received l.matched l.dropped (is_closed l.closed) (open_now l.closed c.if-listener-ne0.false)
          x (kept_by_answer c.args.answer l.snap a) seen (messages c.put-stored.new.self) (omega (arith, captured, ap size long, fits)) apart put.stored;
      snap = refl;
      mode = refl;
      closed = refl;
      moves = (put.memory, refl);
      terms = ap (λ (n : ℕ). terms n (mode_of l.mode)) put.capacity;
      is = record {
        store = put.buffer;
        hold = own.hold;
        if_open = λ now. record {
          same = is.same ∙ sym put.capacity;
          range = subst (InRange l.snap) (sym put.capacity) is.range;
          matched = omega (arith, is.matched);
          dropped = omega (arith, is.dropped);
        };
      };
    }

pub returns-then-stored : goal.returns-then-stored
returns-then-stored c =
    let l = c.args.listener.now in
    let own = c.requires.listener in
    let is = own.if_open c.if-listener-ne0.false in
    let a = arrival_of c.args.capture c.args.packet.now c.args.bytes.now in
    let kept = c.min-kept.result in
    let x = cut_to kept a in
    let seen = kept_cut c.args.answer l.snap kept a (omega (arith, c.if-answer-eq0.false)) (omega (arith, c.min-kept.ensures, c.min-most.ensures)) in
    let captured = size_cut a kept (omega (arith, c.min-kept.ensures)) in
    let long : length (take kept c.args.bytes.now) ≡ kept = omega (arith, length-take kept c.args.bytes.now, c.min-kept.ensures) in
    let put = c.if-stored.ensures in
    let fits = put.fits.0 refl in
    rw (c.swap.ensures.x_after, c.swap.ensures.y_after) (record {
      steps = steps_held (terms_of l) (messages l.hold) (messages l.store) l.received l.matched l.dropped (is_closed l.closed) (open_now l.closed c.if-listener-ne0.false)
          x (kept_by_answer c.args.answer l.snap a) seen (messages c.put-stored.new.self) (omega (arith, captured, ap size long, fits))
          (immediate l.mode (omega (arith, c.if-listener-eq0.false))) (none_in l.hold c.if-listener-ne0-2.false) put.stored;
      snap = refl;
      mode = refl;
      closed = refl;
      moves = (refl, put.memory);
      terms = ap (λ (n : ℕ). terms n (mode_of l.mode)) is.same;
      is = record {
        store = own.hold;
        hold = put.buffer;
        if_open = λ now. record {
          same = put.capacity ∙ sym is.same;
          range = subst (InRange l.snap) (sym is.same) is.range;
          matched = omega (arith, is.matched);
          dropped = omega (arith, is.dropped);
        };
      };
    })

pub returns-then-listener-ne0-3 : goal.returns-then-listener-ne0-3
returns-then-listener-ne0-3 c =
    let l = c.args.listener.now in
    let own = c.requires.listener in
    let is = own.if_open c.if-listener-ne0.false in
    let a = arrival_of c.args.capture c.args.packet.now c.args.bytes.now in
    let kept = c.min-kept.result in
    let x = cut_to kept a in
    let seen = kept_cut c.args.answer l.snap kept a (omega (arith, c.if-answer-eq0.false)) (omega (arith, c.min-kept.ensures, c.min-most.ensures)) in
    let captured = size_cut a kept (omega (arith, c.min-kept.ensures)) in
    let long : length (take kept c.args.bytes.now) ≡ kept = omega (arith, length-take kept c.args.bytes.now, c.min-kept.ensures) in
    let over = over_by c.put-stored.result (room (messages l.store) + size (length (take kept c.args.bytes.now))) (capacity l.store) c.if-stored.false c.put-stored.ensures.fits.1 in
    let same = c.if-stored.ensures.unchanged refl in
    rw same (record {
      steps = steps_dropped (terms_of l) (messages l.hold) (messages l.store) l.received l.matched l.dropped (is_closed l.closed) (open_now l.closed c.if-listener-ne0.false)
          x (kept_by_answer c.args.answer l.snap a) seen (omega (arith, captured, ap size long, over)) (some_in l.hold own.hold (omega (arith, c.if-listener-ne0-3.true)));
      snap = refl;
      mode = refl;
      closed = refl;
      moves = (refl, refl);
      terms = refl;
      is = record { store = own.store; hold = own.hold; if_open = λ now. record { same = is.same; range = is.range; matched = omega (arith, is.matched); dropped = omega (arith, is.dropped) } };
    })

pub returns : goal.returns
returns c =
    let l = c.args.listener.now in
    let own = c.requires.listener in
    let is = own.if_open c.if-listener-ne0.false in
    let a = arrival_of c.args.capture c.args.packet.now c.args.bytes.now in
    let kept = c.min-kept.result in
    let x = cut_to kept a in
    let seen = kept_cut c.args.answer l.snap kept a (omega (arith, c.if-answer-eq0.false)) (omega (arith, c.min-kept.ensures, c.min-most.ensures)) in
    let captured = size_cut a kept (omega (arith, c.min-kept.ensures)) in
    let long : length (take kept c.args.bytes.now) ≡ kept = omega (arith, length-take kept c.args.bytes.now, c.min-kept.ensures) in
    let over = over_by c.put-stored.result (room (messages l.store) + size (length (take kept c.args.bytes.now))) (capacity l.store) c.if-stored.false c.put-stored.ensures.fits.1 in
    let none = none_in l.hold c.if-listener-ne0-3.false in
    let fresh : c.swap-2.new.x ≡ l.hold = c.swap-2.ensures.x_after in
    let full : c.swap-2.new.y ≡ l.store = c.swap-2.ensures.y_after ∙ c.if-stored.ensures.unchanged refl in
    let room_is : room (messages c.swap-2.new.x) ≡ 0 = ap (λ (b : BpftapBuffer). room (messages b)) fresh ∙ ap room none ∙ room_nil in
    let capacity_is : capacity c.swap-2.new.x ≡ capacity l.store = ap (λ (b : BpftapBuffer). capacity b) fresh ∙ is.same in
    let put = c.put-stored-2.ensures in
    let done = put.fits.1 (omega (arith, room_is, capacity_is, is.range.room, ap size long, c.min-kept.ensures, c.min-most.ensures)) in
    let stored = on_true c.put-stored-2.result _ done put.stored in
    let capacities : capacity c.put-stored-2.new.self ≡ capacity l.store = put.capacity ∙ capacity_is in
    rw full (record {
      steps = steps_rotated (terms_of l) (messages l.hold) (messages l.store) l.received l.matched l.dropped (is_closed l.closed) (open_now l.closed c.if-listener-ne0.false)
          x (kept_by_answer c.args.answer l.snap a) seen (messages c.put-stored-2.new.self) (omega (arith, captured, ap size long, over)) none
          (stored ∙ ap (λ (b : BpftapBuffer). messages b ++ x ∷ []) fresh);
      snap = refl;
      mode = refl;
      closed = refl;
      moves = (put.memory ∙ ap (λ (b : BpftapBuffer). memory b) fresh, refl);
      terms = ap (λ (n : ℕ). terms n (mode_of l.mode)) capacities;
      is = record {
        store = put.buffer;
        hold = own.store;
        if_open = λ now. record {
          same = sym capacities;
          range = subst (InRange l.snap) (sym capacities) is.range;
          matched = omega (arith, is.matched);
          dropped = omega (arith, is.dropped);
        };
      };
    })
