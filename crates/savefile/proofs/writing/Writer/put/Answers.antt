use Rattle.std.proofs.Common.{◌≡◌, ◌++◌, refl}
use Rattle.savefile.specs.Savefile.{packet, record_text}
use Rattle.savefile.specs.Writer.{writing}
use Rattle.savefile.proofs.Sending.{at_err, breaks_off, on_ok, sent_grows, writes_packet}
use Rattle.savefile.proofs.writing.Writer.put.Goals as goal

pub returns-clause-ok : goal.returns-clause-ok
unfolding record_text
returns-clause-ok g c =
    let w = c.self.inside in
    let old = writing w.sink w.order w.unit w.sent w.failed in
    let p = packet c.args.sec c.args.nanos c.args.len c.args.bytes.now in
    let e : c.record_header-header.result ++ c.args.bytes.now ≡ record_text w.order w.unit p = rw c.record_header-header.ensures refl in
    rw (← c.self.view_is) (λ start order unit snap packets h.
    on_ok c.send_both.result _ _ (λ s. writes_packet g.W.Sink.taken start order unit snap packets p old c.send_both.new.self h s.0 s.1) (rw (e, ← c.self.view_is) at c.send_both.ensures.ok))

pub returns-clause-broke_off : goal.returns-clause-broke_off
unfolding record_text
returns-clause-broke_off g c =
    let w = c.self.inside in
    let old = writing w.sink w.order w.unit w.sent w.failed in
    let p = packet c.args.sec c.args.nanos c.args.len c.args.bytes.now in
    let e : c.record_header-header.result ++ c.args.bytes.now ≡ record_text w.order w.unit p = rw c.record_header-header.ensures refl in
    rw (← c.self.view_is) (λ start order unit snap packets h is.
    let s = at_err c.send_both.result _ _ is (rw (e, ← c.self.view_is) at c.send_both.ensures.err) in
    breaks_off g.W.Sink.taken start order unit snap packets p old c.send_both.new.self h s)

pub returns-clause-grows : goal.returns-clause-grows
returns-clause-grows g c =
    sent_grows g.W.Sink.taken c.args.self.now c.send_both.new.self _ c.send_both.result _ c.send_both.ensures.ok c.send_both.ensures.err
