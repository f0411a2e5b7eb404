use Rattle.std.proofs.Common.{◌∙◌, subst}
use Rattle.std.proofs.lemmas.Result.{err_from_is_err_and}
use Rattle.std.specs.Io.KnownBytes.{Appends}
use Rattle.tap_text.specs.Printed.{part_in, messages_in}
use Rattle.line_text.specs.Sending.{TakesPart}
use Rattle.line_text.proofs.Taking.{TakesPart-more, TakesPart-none, Takes-then}
use Rattle.tap_text.proofs.report.write_part.Goals as goal

pub returns-in_err-put_part : goal.returns-in_err-put_part
returns-in_err-put_part g c =
    let p = err_from_is_err_and c.from_residual.result c.from_residual.ensures.1 in
    rw p.1 (TakesPart-none _ _)

pub returns-in_err-send : goal.returns-in_err-send
returns-in_err-send g c =
    let p = err_from_is_err_and c.from_residual-in_err-send.result c.from_residual-in_err-send.ensures.1 in
    let text = c.as_bytes.ensures ∙ c.in_ok-put_part.ensures in
    rw p.1 (TakesPart-more _ _ (part_in c.args.head.form c.args.head.l c.args.part) (messages_in c.args.head.form c.args.head.l c.args.part c.args.messages.now) (subst (TakesPart _ _) text c.in_err-send.ensures))

pub returns : goal.returns
returns g c =
    let text = c.as_bytes.ensures ∙ c.in_ok-put_part.ensures in
    Takes-then _ _ _ (part_in c.args.head.form c.args.head.l c.args.part) (messages_in c.args.head.form c.args.head.l c.args.part c.args.messages.now) _ (subst (Appends _ _) text c.in_ok-send.ensures) c.write_messages.ensures
