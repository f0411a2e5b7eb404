use Rattle.std.proofs.Common.{◌++◌, ap, sym, subst, inl, inr, refl, arith}
use Rattle.listener.specs.Listening.{InRange}
use Rattle.listener.specs.PlainList.{terms}
use Rattle.bpftap_c.specs.Buffers.{messages}
use Rattle.bpftap_c.specs.Listeners.{mode_of, is_closed, terms_of}
use Rattle.bpftap_c.proofs.Buffering.{none_in, some_in}
use Rattle.bpftap_c.proofs.Stepping.{open_now, closed_now, flush_step}
use Rattle.bpftap_c.proofs.listeners.bpftap_listener_flush.Goals as goal
use Rattle.bpftap_c.proofs.listeners.bpftap_listener_flush.Goals.{then-listener-ne0-via-then-listener-ne0, then-listener-ne0-via-else-listener-ne0+then-listener-ne0-2, then-listener-ne0-via-else-listener-ne0+else-listener-ne0-2+then-listener-eq0}

pub returns-then-listener-ne0 : goal.returns-then-listener-ne0
returns-then-listener-ne0 c =
    let l = c.args.listener.now in
    elim c.then-listener-ne0.branch [
      | then-listener-ne0-via-then-listener-ne0 w ↦
          record { steps = record { is_right = inl (closed_now l.closed (omega (arith, w.if-listener-ne0))); change = refl }; snap = refl; mode = refl; closed = refl; moves = (refl, refl); terms = refl; is = c.requires }
      | then-listener-ne0-via-else-listener-ne0+then-listener-ne0-2 w ↦
          record { steps = record { is_right = inr (inl (some_in l.hold c.requires.hold (omega (arith, w.if-listener-ne0-2)))); change = refl }; snap = refl; mode = refl; closed = refl; moves = (refl, refl); terms = refl; is = c.requires }
      | then-listener-ne0-via-else-listener-ne0+else-listener-ne0-2+then-listener-eq0 w ↦
          record { steps = record { is_right = inr (inr (λ i. none_in l.hold w.if-listener-ne0-2.false i ++ none_in l.store w.if-listener-eq0.true i)); change = refl }; snap = refl; mode = refl; closed = refl; moves = (refl, refl); terms = refl; is = c.requires }
    ]

pub returns : goal.returns
returns c =
    let l = c.args.listener.now in
    let own = c.requires in let is = own.if_open c.if-listener-ne0.false in
    rw (c.swap.ensures.x_after, c.swap.ensures.y_after) (record {
      steps = flush_step (terms_of l) (messages l.hold) (messages l.store) l.received l.matched l.dropped (is_closed l.closed) (open_now l.closed c.if-listener-ne0.false)
          (none_in l.hold c.if-listener-ne0-2.false) (some_in l.store own.store (omega (arith, c.if-listener-eq0.false)));
      snap = refl;
      mode = refl;
      closed = refl;
      moves = (refl, refl);
      terms = ap (λ (n : _). terms n (mode_of l.mode)) is.same;
      is = record { store = own.hold; hold = own.store; if_open = λ now. record { same = sym is.same; range = subst (InRange l.snap) (sym is.same) is.range; matched = is.matched; dropped = is.dropped } };
    })
