use Rattle.std.proofs.Common.{◌≢◌, ◌+◌, true, length, refl, sym, ◌∙◌, arith, length-take}
use Rattle.std.proofs.lemmas.Bool.{eqb-false}
use Rattle.savefile.specs.Writer.{writing}
use Rattle.savefile.proofs.Sending.{sends_front, sends_more}
use Rattle.savefile.proofs.writing.Writer.send_rest.Goals as goal

pub loop-rest-preserved : goal.loop-rest-preserved
loop-rest-preserved g c =
    let told = c.in-Ok.ensures in
    let w = c.loop-rest.self-inside in
    let old = writing w.sink w.order w.unit w.sent w.failed in
    let new = writing c.write.new.self w.order w.unit (w.sent + c.in-Ok.taken) w.failed in
    record {
      sent = sends_more g.W.Sink.taken c.args.self.now old new c.args.bytes.now c.loop-rest.invariant.sent.0 c.loop-rest.rest.now c.in-Ok.taken told.count c.loop-rest.invariant.sent.1 c.loop-rest.invariant.sent.2
          (record { bytes = told.bytes; count = omega (arith, told.count, length-take c.in-Ok.taken c.loop-rest.rest.now); in_order = refl; in_unit = refl });
      failed = c.loop-rest.invariant.failed;
      failures = told.failures ∙ c.loop-rest.invariant.failures;
      named = told.named ∙ c.loop-rest.invariant.named;
    }

pub returns-in-Err-clause-err : goal.returns-in-Err-clause-err
returns-in-Err-clause-err g c =
    let w = c.loop-rest.self-inside in
    let some : length c.loop-rest.rest.now ≢ 0 = eqb-false (length c.loop-rest.rest.now) 0 (sym c.loop-rest-test.ensures) in
    sends_front g.W.Sink.taken c.args.self.now (writing w.sink w.order w.unit w.sent w.failed) (writing c.write.new.self w.order w.unit w.sent true) c.args.bytes.now
    c.loop-rest.invariant.sent.0 c.loop-rest.rest.now c.loop-rest.invariant.sent.1 c.loop-rest.invariant.sent.2 some c.in-Err.ensures.bytes refl refl refl refl
