use Rattle.std.proofs.Common.{◌∙◌, subst}
use Rattle.std.proofs.lemmas.Result.{err_from_is_err_and}
use Rattle.std.specs.Io.KnownBytes.{Appends}
use Rattle.line_text.specs.Texts.{numbered}
use Rattle.tap_text.specs.Answers.{arrival_line, arrived_line}
use Rattle.line_text.specs.Sending.{TakesPart}
use Rattle.line_text.proofs.Taking.{TakesPart-more, TakesPart-none, Takes-then}
use Rattle.tap_text.proofs.answers.write_arrival.Goals as goal

pub returns-in_err-put_arrival : goal.returns-in_err-put_arrival
returns-in_err-put_arrival g c =
    let p = err_from_is_err_and c.from_residual.result c.from_residual.ensures.1 in
    rw p.1 (TakesPart-none _ _)

pub returns-in_err-send : goal.returns-in_err-send
returns-in_err-send g c =
    let p = err_from_is_err_and c.from_residual-in_err-send.result c.from_residual-in_err-send.ensures.1 in
    let text = c.as_bytes.ensures.value ∙ c.in_ok-put_arrival.ensures in
    rw p.1 (TakesPart-more _ _ (arrival_line c.args.head.form c.args.head.n c.args.placed.now) (numbered (arrived_line c.args.head.form c.args.head.n c.args.placed.now) 0 c.args.all.now) (subst (TakesPart _ _) text c.in_err-send.ensures))

pub returns : goal.returns
returns g c =
    let text = c.as_bytes.ensures.value ∙ c.in_ok-put_arrival.ensures in
    Takes-then _ _ _ (arrival_line c.args.head.form c.args.head.n c.args.placed.now) (numbered (arrived_line c.args.head.form c.args.head.n c.args.placed.now) 0 c.args.all.now) _ (subst (Appends _ _) text c.in_ok-send.ensures) c.write_all.ensures
