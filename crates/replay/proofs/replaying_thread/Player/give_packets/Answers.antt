use Rattle.std.proofs.Common.{◌∷◌, [], ◌++◌, List, ap, sym, refl, ◌∙◌, arith, subst, Ok, Err, inl, inr, length-append}
use Rattle.listener.specs.Messages.{Arrival, arrival}
use Rattle.savefile.specs.declared.packet.Packet.{Packet}
use Rattle.replay.specs.Captures.{arrivals_from}
use Rattle.replay.specs.Lines.{HasArrived}
use Rattle.replay.proofs.Captured.{arrives-behind, comes-back, device-or-same, takes-more, writable-more}
use Rattle.replay.proofs.Writes.{same-unless-different}
use Rattle.replay.proofs.replaying_thread.Player.give_packets.Goals as goal

pub returns-in-Ok-false-clause-played : goal.returns-in-Ok-false-clause-played
returns-in-Ok-false-clause-played g c = λ start header h.
    let (packets, so_many, writable, given, arrives) = c.loop-place.invariant.5 start header h in record {
      packets = packets;
      writable = writable;
      arrive = arrives;
      ends = (header, c.advance.ensures.end start header packets given (c.in-Ok-false.is ∙ ap Ok c.in-Ok-false.field-0-test));
    }

pub returns-in-Err-clause-played : goal.returns-in-Err-clause-played
returns-in-Err-clause-played g c = λ start header h.
    let (packets, so_many, writable, given, arrives) = c.loop-place.invariant.5 start header h in
    let a = c.advance.ensures in
    let most = c.loop-place.invariant.1 in
    let sum = c.loop-place.invariant.0 in record {
      packets = packets;
      writable = writable;
      arrive = arrives;
      ends = (
        refl,
        (λ e. let bad = sym given.goes_on.1 ∙ a.failed.0 (c.in-Err.is ∙ ap Err e) in cc),
        (λ e. let full = a.count_full.0 (c.in-Err.is ∙ ap Err e) in omega (arith, full.1, given.counts, so_many, most, sum)),
        elim (c.in-Err.ensures.cause start header packets given) [
          | inl read ↦ inr (inl (header, read))
          | inr (inl device) ↦ inr (inr (inl (
            device.0,
            (λ same. a.device.0 (c.in-Err.is ∙ ap Err device.0) (same ∙ sym c.loop-place.invariant.3)),
            inr (header, a.so_far start header packets given),
          )))
          | inr (inr full) ↦ absurd (omega (arith, full.1, so_many, most, sum))
        ],
      );
    }

-- where the call did not fail, the source did not
pub returns-in-Ok-false-clause-back : goal.returns-in-Ok-false-clause-back
returns-in-Ok-false-clause-back g c =
    comes-back g.S.Source.left g.S.Source.failures _ _ c.advance.new.self.source c.args.capture _ c.loop-place.invariant.4 c.advance.ensures.taken c.loop-place.invariant.3
    (inr (same-unless-different (g.S.Source.failures c.advance.new.self.source) _
    (λ differs. let bad = sym (c.in-Ok-false.is ∙ ap Ok c.in-Ok-false.field-0-test) ∙ c.advance.ensures.device.1 differs in cc)))

pub returns-in-Err-clause-back : goal.returns-in-Err-clause-back
returns-in-Err-clause-back g c =
    comes-back g.S.Source.left g.S.Source.failures _ _ c.advance.new.self.source c.args.capture _ c.loop-place.invariant.4 c.advance.ensures.taken c.loop-place.invariant.3
    (device-or-same c.args.capture c.in-Err.fault _ _ (λ differs. let e = sym c.in-Err.is ∙ c.advance.ensures.device.1 differs in cc))

pub returns-then-self-clause-back : goal.returns-then-self-clause-back
returns-then-self-clause-back g c =
    comes-back g.S.Source.left g.S.Source.failures _ _ c.advance.new.self.source c.args.capture _ c.loop-place.invariant.4 c.advance.ensures.taken c.loop-place.invariant.3
    (inr (same-unless-different (g.S.Source.failures c.advance.new.self.source) _
    (λ differs. let bad = sym (c.in-Ok-true.is ∙ ap Ok c.in-Ok-true.field-0-test) ∙ c.advance.ensures.device.1 differs in cc)))

pub returns-then-self-clause-played : goal.returns-then-self-clause-played
returns-then-self-clause-played g c = λ start header h.
    let (packets, so_many, writable, given, arrives) = c.loop-place.invariant.5 start header h in record {
      packets = packets;
      writable = writable;
      arrive = arrives;
      ends = (c.if-self.true, header, c.advance.ensures.so_far start header packets given);
    }

pub loop-place-preserved : goal.loop-place-preserved
loop-place-preserved g c =
    let (starts, playlist, so_far) = c.loop-place.invariant.2 in
    let p = c.advance.new.self.lent in
    let capture = c.args.capture in
    let place = c.loop-place.place in
    let is = c.in-Ok-true.is ∙ ap Ok c.in-Ok-true.field-0-test in
    let here = ap (λ (q : Packet). arrival capture place q) c.packet.ensures in
    let grown = c.arrive.ensures starts playlist so_far in (
      omega (arith, grown.0, so_far.0, c.loop-place.invariant.0, length-append playlist (arrival capture place p ∷ []), length-append playlist (arrival capture place c.packet.result ∷ [])),
      omega (arith, grown.0, so_far.0, c.loop-place.invariant.1, c.if-self.false, length-append playlist (arrival capture place c.packet.result ∷ [])),
      (starts, _, grown),
      same-unless-different (g.S.Source.failures c.advance.new.self.source) (g.S.Source.failures c.loop-place.reader.source)
          (λ differs. let bad = sym is ∙ c.advance.ensures.device.1 differs in cc)
          ∙ c.loop-place.invariant.3,
      takes-more _ _ _ c.loop-place.invariant.4 c.advance.ensures.taken,
      (λ start header h.
          let (packets, so_many, writable, given, arrives) = c.loop-place.invariant.5 start header h in (
            packets ++ p ∷ [],
            omega (arith, so_many, length-append packets (p ∷ [])),
            writable-more packets p writable (c.advance.ensures.writable is),
            c.advance.ensures.packet start header packets given is,
            (λ starts playlist h.
                subst (λ (as' : List Arrival). HasArrived starts as' c.arrive.new.self)
                (ap (λ x. (playlist ++ arrivals_from capture 0 packets) ++ x ∷ []) here ∙ arrives-behind playlist capture place packets p so_many)
                (c.arrive.ensures starts (playlist ++ arrivals_from capture 0 packets) (arrives starts playlist h))),
          )),
    )
