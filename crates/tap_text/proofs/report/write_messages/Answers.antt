use Rattle.std.proofs.Common.{◌∙◌, subst}
use Rattle.std.proofs.lemmas.Result.{err_from_is_err_and}
use Rattle.std.specs.Io.KnownBytes.{Appends}
use Rattle.tap_text.specs.Printed.{message_in}
use Rattle.line_text.specs.Sending.{TakesPart}
use Rattle.line_text.proofs.Taking.{TakesPart-at, TakesPart-before, Appends-at}
use Rattle.tap_text.proofs.report.write_messages.Goals as goal

pub returns-in_err-put_message : goal.returns-in_err-put_message
returns-in_err-put_message g c =
    let p = err_from_is_err_and c.from_residual.result c.from_residual.ensures.1 in
    rw p.1 (TakesPart-before (message_in c.args.head.form c.args.head.l c.args.part) c.args.messages.now c.loop-message.message-index c.message-item.result _ _ c.loop-message-test.true c.message-item.is c.loop-message.invariant)

pub returns-in_err-send : goal.returns-in_err-send
returns-in_err-send g c =
    let p = err_from_is_err_and c.from_residual-in_err-send.result c.from_residual-in_err-send.ensures.1 in
    let text = c.as_bytes.ensures ∙ c.in_ok-put_message.ensures in
    rw p.1 (TakesPart-at (message_in c.args.head.form c.args.head.l c.args.part) c.args.messages.now c.loop-message.message-index c.message-item.result _ _ _ c.loop-message-test.true c.message-item.is c.loop-message.invariant (subst (TakesPart _ _) text c.in_err-send.ensures))

pub loop-message-preserved : goal.loop-message-preserved
loop-message-preserved g c =
    let text = c.as_bytes.ensures ∙ c.in_ok-put_message.ensures in
    Appends-at (message_in c.args.head.form c.args.head.l c.args.part) c.args.messages.now c.loop-message.message-index c.message-item.result _ _ _ c.loop-message-test.true c.message-item.is c.loop-message.invariant (subst (Appends _ _) text c.in_ok-send.ensures)
