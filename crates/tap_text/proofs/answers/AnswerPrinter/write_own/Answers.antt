use Rattle.std.proofs.Common.{◌∙◌, subst}
use Rattle.std.proofs.KnownBytes.{Appends-trans}
use Rattle.std.proofs.lemmas.Result.{err_from_is_err_and}
use Rattle.std.specs.Io.KnownBytes.{Appends}
use Rattle.tap_text.specs.Answers.{own_line, line_at}
use Rattle.line_text.specs.Sending.{TakesPart}
use Rattle.line_text.proofs.Taking.{TakesPart-more, TakesPart-none, TakesPart-then}
use Rattle.tap_text.proofs.answers.AnswerPrinter.write_own.Goals as goal

pub returns-in_err-put_own-clause-text : goal.returns-in_err-put_own-clause-text
returns-in_err-put_own-clause-text g c =
    let p = err_from_is_err_and c.from_residual.result c.from_residual.ensures.1 in
    rw p.1 (TakesPart-none _ _)

pub returns-in_err-send-clause-text : goal.returns-in_err-send-clause-text
returns-in_err-send-clause-text g c =
    let p = err_from_is_err_and c.from_residual-in_err-send.result c.from_residual-in_err-send.ensures.1 in
    let text = c.as_bytes.ensures.value ∙ c.in_ok-put_own.ensures in
    rw p.1 (TakesPart-more _ _ (own_line c.args.head.form c.args.head.n c.args.word.now c.args.l) (line_at c.args.head.form c.args.head.n c.args.l c.args.self.now.cursors.items) (subst (TakesPart _ _) text c.in_err-send.ensures))

pub returns-in_err-write_one-clause-text : goal.returns-in_err-write_one-clause-text
returns-in_err-write_one-clause-text g c =
    let p = err_from_is_err_and c.from_residual-in_err-write_one.result c.from_residual-in_err-write_one.ensures.1 in
    let text = c.as_bytes.ensures.value ∙ c.in_ok-put_own.ensures in
    rw p.1 (TakesPart-then _ _ _ (own_line c.args.head.form c.args.head.n c.args.word.now c.args.l) (line_at c.args.head.form c.args.head.n c.args.l c.args.self.now.cursors.items) (subst (Appends _ _) text c.in_ok-send.ensures) (rw c.as_slice.ensures.value at c.in_err-write_one.ensures))

pub returns-clause-text : goal.returns-clause-text
returns-clause-text g c =
    let text = c.as_bytes.ensures.value ∙ c.in_ok-put_own.ensures in
    Appends-trans _ _ _ (own_line c.args.head.form c.args.head.n c.args.word.now c.args.l) (line_at c.args.head.form c.args.head.n c.args.l c.args.self.now.cursors.items) (subst (Appends _ _) text c.in_ok-send.ensures) (rw c.as_slice.ensures.value at c.in_ok-write_one.ensures)
