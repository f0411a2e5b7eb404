use Rattle.std.proofs.Common.{sym, subst, ◌∙◌}
use Rattle.std.proofs.KnownBytes.{Appends-nil}
use Rattle.std.proofs.lemmas.Result.{err_from_is_err_and}
use Rattle.std.specs.Io.KnownBytes.{Appends}
use borrow.Author.Tests.{ltb-false}
use Rattle.line_text.specs.Sending.{Takes}
use Rattle.line_text.proofs.Taking.{TakesPart-none}
use Rattle.tap_text.proofs.Answering.{line_some, line_none}
use Rattle.tap_text.proofs.answers.write_one.Goals as goal

pub returns-in_err-put_next : goal.returns-in_err-put_next
returns-in_err-put_next g c =
    let p = err_from_is_err_and c.from_residual.result c.from_residual.ensures.1 in
    rw p.1 (TakesPart-none _ _)

pub returns : goal.returns
returns g c =
    let (_, reads, _, (inside, _), _) = c.in-Some.ensures.lookup in
    let line = line_some c.args.head.form c.args.head.n c.args.l c.args.all.now c.in-Some.one.now inside reads in
    subst (Takes _ _ c.send.result) (c.as_bytes.ensures.value ∙ c.in_ok-put_next.ensures ∙ sym line) c.send.ensures

pub returns-in_default : goal.returns-in_default
returns-in_default g c =
    let past = ltb-false _ _ (sym c.in_default.ensures.lookup.0) in
    subst (Appends _ _) (sym (line_none c.args.head.form c.args.head.n c.args.l c.args.all.now past)) (Appends-nil _)
