use Rattle.std.proofs.Common.{◌≡◌, ◌∙◌, rules, subst, sym}
use Rattle.std.proofs.KnownBytes.{Appends-nil}
use Rattle.std.proofs.lemmas.Result.{err_from_is_err_and}
use Rattle.std.specs.Io.KnownBytes.{Appends}
use Rattle.line_text.specs.Sending.{Takes}
use Rattle.line_text.proofs.Taking.{TakesPart-none}
use Rattle.cli_split.proofs.Printing.{told-none, told-whole}
use Rattle.cli_split.proofs.report.write_part.Goals as goal

pub returns-then-is_err : goal.returns-then-is_err
returns-then-is_err g c =
    subst (Appends _ _) (told-none c.args.form c.args.output.now c.args.part.now.tally c.args.part.now.written (sym c.is_err.ensures.value ∙ c.if-is_err.true)) (Appends-nil (g.O.Write.contents c.args.out.now))

pub returns-in_err-put_count : goal.returns-in_err-put_count
returns-in_err-put_count g c =
    let p = err_from_is_err_and c.from_residual.result c.from_residual.ensures.1 in
    rw p.1 (TakesPart-none _ _)

pub returns : goal.returns
returns g c =
    let text = c.as_bytes.ensures.value ∙ c.in_ok-put_count.ensures in
    let whole = told-whole c.args.form c.args.output.now c.args.part.now.tally c.args.part.now.written (search rules) in
    subst (Takes _ _ c.send.result) (text ∙ whole) c.send.ensures
