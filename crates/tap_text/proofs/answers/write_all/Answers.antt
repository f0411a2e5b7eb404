use Rattle.std.proofs.Common.{◌∙◌, subst}
use Rattle.std.proofs.lemmas.Result.{err_from_is_err_and}
use Rattle.std.specs.Io.KnownBytes.{Appends}
use Rattle.tap_text.specs.Answers.{arrived_line}
use Rattle.line_text.specs.Sending.{TakesPart}
use Rattle.line_text.proofs.Taking.{TakesPart-none, TakesPart-numbered, Appends-numbered}
use Rattle.tap_text.proofs.answers.write_all.Goals as goal

pub returns-in_err-put_arrived : goal.returns-in_err-put_arrived
returns-in_err-put_arrived g c =
    let p = err_from_is_err_and c.from_residual.result c.from_residual.ensures.1 in
    rw p.1 (TakesPart-numbered (arrived_line c.args.head.form c.args.head.n c.args.placed.now) c.args.all.now c.loop-l.l c.index-all-l.result _ _ _ c.loop-l-test.true c.index-all-l.is c.loop-l.invariant (TakesPart-none _ _))

pub returns-in_err-send : goal.returns-in_err-send
returns-in_err-send g c =
    let p = err_from_is_err_and c.from_residual-in_err-send.result c.from_residual-in_err-send.ensures.1 in
    let text = c.as_bytes.ensures.value ∙ c.in_ok-put_arrived.ensures in
    rw p.1 (TakesPart-numbered (arrived_line c.args.head.form c.args.head.n c.args.placed.now) c.args.all.now c.loop-l.l c.index-all-l.result _ _ _ c.loop-l-test.true c.index-all-l.is c.loop-l.invariant (subst (TakesPart _ _) text c.in_err-send.ensures))

pub loop-l-preserved : goal.loop-l-preserved
loop-l-preserved g c =
    let text = c.as_bytes.ensures.value ∙ c.in_ok-put_arrived.ensures in
    Appends-numbered (arrived_line c.args.head.form c.args.head.n c.args.placed.now) c.args.all.now c.loop-l.l c.index-all-l.result _ _ _ c.loop-l-test.true c.index-all-l.is c.loop-l.invariant (subst (Appends _ _) text c.in_ok-send.ensures)
