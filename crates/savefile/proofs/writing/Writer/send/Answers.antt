use Rattle.std.proofs.Common.{◌≡◌, ℕ, ◌+◌, ◌-◌, List, ◌++◌, length, take, drop, refl, ap, subst, ◌∙◌, arith, length-take, take-append-drop}
use Rattle.savefile.proofs.Records.{rest_of}
use Rattle.savefile.specs.Sending.{Sends, SendsPart}
use Rattle.savefile.specs.Writer.{writing}
use Rattle.savefile.proofs.Sending.{on_err, on_ok, Sends-trans, SendsPart-second}
use Rattle.savefile.proofs.writing.Writer.send.Goals as goal

pub returns-else-n-bytes-clause-err : goal.returns-else-n-bytes-clause-err
returns-else-n-bytes-clause-err g c =
    let taken = g.W.Sink.taken in
    let w = c.self.inside in
    let bytes = c.args.bytes.now in
    let n = c.in-Ok.n in
    let old = writing w.sink w.order w.unit w.sent w.failed in
    let mid = writing c.write.new.self w.order w.unit (w.sent + n) w.failed in
    let whole : take n bytes ++ take (length bytes - n) (drop n bytes) ≡ bytes = ap (λ (t : List ℕ). take n bytes ++ t) (rest_of n bytes) ∙ take-append-drop n bytes in
    rw (← c.self.view_is) (on_err c.send_rest.result _ _ (λ p. subst (λ (t : List ℕ). SendsPart taken old c.send_rest.new.self t) whole
    (SendsPart-second taken old mid c.send_rest.new.self (take n bytes) (take (length bytes - n) (drop n bytes))
    (record { bytes = c.in-Ok.ensures.bytes; count = omega (arith, c.in-Ok.ensures.count, length-take n bytes); in_order = refl; in_unit = refl }) p))
    c.send_rest.ensures.err)

pub returns-else-n-bytes-clause-ok : goal.returns-else-n-bytes-clause-ok
returns-else-n-bytes-clause-ok g c =
    let taken = g.W.Sink.taken in
    let w = c.self.inside in
    let bytes = c.args.bytes.now in
    let n = c.in-Ok.n in
    let old = writing w.sink w.order w.unit w.sent w.failed in
    let mid = writing c.write.new.self w.order w.unit (w.sent + n) w.failed in
    let whole : take n bytes ++ take (length bytes - n) (drop n bytes) ≡ bytes = ap (λ (t : List ℕ). take n bytes ++ t) (rest_of n bytes) ∙ take-append-drop n bytes in
    rw (← c.self.view_is) (on_ok c.send_rest.result _ _ (λ p. (
      subst (λ (t : List ℕ). Sends taken old c.send_rest.new.self t) whole
          (Sends-trans taken old mid c.send_rest.new.self (take n bytes) (take (length bytes - n) (drop n bytes))
          (record { bytes = c.in-Ok.ensures.bytes; count = omega (arith, c.in-Ok.ensures.count, length-take n bytes); in_order = refl; in_unit = refl }) p.0),
      p.1,
    ))
    c.send_rest.ensures.ok)
