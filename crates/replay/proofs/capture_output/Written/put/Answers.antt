use Rattle.std.proofs.Common.{◌∷◌, ◌++◌, [], map, refl, sym, subst, ap, ◌∙◌, inr, Err, arith}
use Rattle.listener.specs.Buffers.{message_in}
use Rattle.savefile.specs.Writer.{HasWrittenPart, HasWritten}
use Rattle.savefile.specs.Savefile.{packet}
use Rattle.replay.specs.Writing.{as_written}
use Rattle.replay.proofs.Writes.{stays-broken, writes-more, put-fails, count-below, same-unless-different}
use Rattle.replay.proofs.capture_output.Written.put.Goals as goal

pub returns-then-not-self : goal.returns-then-not-self
returns-then-not-self g c = λ output messages t.
    stays-broken g.W.Sink.taken g.W.Sink.failures output messages (message_in c.args.message.now ∷ []) c.args.self.now
    (c.growing_text.ensures.begins output.order output.unit output.snap) c.if-not-self.true t

pub returns-in-Err : goal.returns-in-Err
returns-in-Err g c = λ output messages t.
    let m = c.args.message.now in
    let written = (t.whole c.if-not-self.false).1 in
    let put = c.put.ensures in
    let fault = c.in-Err.field-0 in
    put-fails g.W.Sink.taken g.W.Sink.failures output messages (message_in m) c.args.self.now _ fault
    (c.growing_text.ensures.begins output.order output.unit output.snap) (c.growing_text.ensures.adds output.order output.unit output.snap)
    c.if-not-self.false t refl refl put.grows
    (λ is. subst (λ (n : _). HasWrittenPart g.W.Sink.taken (g.W.Sink.taken output.sink) output.order output.unit output.snap
    (map as_written messages ++ packet m.sec n m.len m.bytes.now ∷ []) c.put.new.self) c.min-nanos.ensures
    (put.broke_off _ output.order output.unit output.snap (map as_written messages) written (c.in-Err.is ∙ ap Err is)))
    (λ is. put.device.0 (c.in-Err.is ∙ ap Err is))
    (λ is. put.failed.0 (c.in-Err.is ∙ ap Err is))
    (λ is. (put.count_full.0 (c.in-Err.is ∙ ap Err is)).1)
    (λ is. put.unchanged (inr (c.in-Err.is ∙ ap Err is)))
    (c.in-Err.ensures.only)

pub returns-in-Ok : goal.returns-in-Ok
returns-in-Ok g c = λ output messages t.
    let m = c.args.message.now in
    let T = g.W.Sink.taken in
    let was = t.whole c.if-not-self.false in
    let written = subst (λ (n : _). HasWritten T (T output.sink) output.order output.unit output.snap
    (map as_written messages ++ packet m.sec n m.len m.bytes.now ∷ []) c.put.new.self) c.min-nanos.ensures
    (c.in-Ok.ensures.ok _ output.order output.unit output.snap (map as_written messages) was.1) in
    let room = count-below T g.W.Sink.failures output messages c.args.self.now c.put.new.self (message_in m) c.if-not-self.false t
    (c.packets_take_room.ensures.written output.order output.unit output.snap) written
    (omega (arith, c.sent-sent.type_inv, c.sent-sent.ensures)) in
    writes-more T g.W.Sink.failures output messages (message_in m) c.args.self.now _ c.if-not-self.false t c.if-not-self.false
    (c.saturating_add-self.ensures ∙ omega (arith, room)) written
    (same-unless-different (g.W.Sink.failures c.put.new.self.sink) (g.W.Sink.failures c.args.self.now.writer.sink)
    (λ differs. let bad = sym c.in-Ok.is ∙ c.put.ensures.device.1 differs in absurd cc))
