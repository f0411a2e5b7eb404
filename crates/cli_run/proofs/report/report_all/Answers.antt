use Rattle.std.proofs.Common.{refl}
use Rattle.std.proofs.lemmas.Result.{err_from_is_err_and}
use Rattle.cli_text.specs.Telling.{output_line}
use Rattle.line_text.proofs.Taking.{TakesPart-more, Takes-then}
use Rattle.cli_run.specs.Printed.{told_replay}
use Rattle.cli_run.proofs.report.report_all.Goals as goal

pub returns-in_err-report_output : goal.returns-in_err-report_output
returns-in_err-report_output g c =
    let p = err_from_is_err_and c.from_residual.result c.from_residual.ensures.1 in
    rw p.1 (TakesPart-more _ _ (output_line c.args.printed.now) (told_replay c.args.reports.now) c.in_err-report_output.ensures)

pub returns : goal.returns
returns g c = Takes-then _ _ _ (output_line c.args.printed.now) (told_replay c.args.reports.now) _ c.in_ok-report_output.ensures (c.report_ends.ensures refl)
