use Rattle.std.proofs.Common.{None, ap, sym, ◌∙◌, inl, inr, refl, arith}
use Rattle.listener.proofs.Decoding.{no_records}
use Rattle.bpftap_c.specs.declared.buffers.BpftapBuffer.{BpftapBuffer}
use Rattle.bpftap_c.specs.Buffers.{messages}
use Rattle.bpftap_c.specs.Listeners.{is_closed, terms_of}
use Rattle.bpftap_c.specs.Outcome.{done}
use Rattle.bpftap_c.proofs.Buffering.{none_in}
use Rattle.bpftap_c.proofs.Stepping.{closed_now, open_now, read_step}
use Rattle.bpftap_c.proofs.listeners.bpftap_listener_read.Goals as goal

pub returns-then-listener-ne0 : goal.returns-then-listener-ne0
returns-then-listener-ne0 c =
    let l = c.args.listener.now in
    let brought : BpftapBuffer = record { bytes = c.args.batch.now.bytes; size = 0 } in
    inl (
      None,
      c.if-batch-listener.false,
      record { steps = record { is_right = inl (closed_now l.closed (omega (arith, c.if-listener-ne0.true))); change = refl }; snap = refl; mode = refl; closed = refl; moves = refl; terms = refl; is = c.requires },
      none_in brought refl,
      record { within = omega arith; records = no_records },
      refl,
      inr ((λ now. omega (arith, now, c.if-listener-ne0.true)), refl, refl),
      c.done.ensures,
    )

pub returns : goal.returns
returns c =
    let l = c.args.listener.now in
    let own = c.requires in
    let is = own.if_open c.if-listener-ne0.false in
    let brought : BpftapBuffer = record { bytes = c.args.batch.now.bytes; size = 0 } in
    let step = read_step (terms_of l) (messages l.hold) (messages l.store) (messages brought) l.received l.matched l.dropped (is_closed l.closed)
    (open_now l.closed c.if-listener-ne0.false) (none_in brought refl) in
    let told = c.done-2.ensures ∙ ap (λ (b : BpftapBuffer). done b.size) c.swap.ensures.y_after in
    rw (c.swap.ensures.x_after, c.swap.ensures.y_after) (inl (
      step.0,
      c.if-batch-listener.false,
      record {
        steps = step.1;
        snap = refl;
        mode = refl;
        closed = refl;
        moves = refl;
        terms = refl;
        is = record {
          store = own.store;
          hold = record { within = omega arith; records = no_records };
          if_open = λ now. record {
            same = c.if-batch-listener.false;
            range = is.range;
            matched = is.matched;
            dropped = is.dropped;
          };
        };
      },
      step.2,
      own.hold,
      is.same ∙ sym c.if-batch-listener.false,
      inl (omega (arith, c.if-listener-ne0.false), refl, refl),
      told,
    ))
