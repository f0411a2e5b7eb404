use Rattle.std.proofs.lemmas.Result.{err_from_is_err_and}
use Rattle.line_text.proofs.Taking.{TakesPart-more, Takes-then}
use Rattle.tap_text.specs.Answers.{answers_from}
use Rattle.tap_text.specs.Printed.{reports_in}
use Rattle.cli_steps.proofs.steps.print_both.Goals as goal

pub returns-in_err-write_answers : goal.returns-in_err-write_answers
returns-in_err-write_answers g c =
    let p = err_from_is_err_and c.from_residual.result c.from_residual.ensures.1 in
    rw p.1 (TakesPart-more _ _ (answers_from c.args.form 1 c.args.steps.now c.args.printer.now.packets.now c.args.printer.now.cursors.items) (reports_in c.args.form c.args.reports.now)
    c.in_err-write_answers.ensures)

pub returns : goal.returns
returns g c =
    Takes-then _ _ _ (answers_from c.args.form 1 c.args.steps.now c.args.printer.now.packets.now c.args.printer.now.cursors.items) (reports_in c.args.form c.args.reports.now) _
    c.in_ok-write_answers.ensures c.print_reports_in.ensures
