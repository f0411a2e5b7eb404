use Rattle.std.proofs.lemmas.Result.{err_from_is_err_and}
use Rattle.tap_text.specs.Printed.{report_lines}
use Rattle.line_text.proofs.Taking.{TakesPart-numbered, Appends-numbered}
use Rattle.tap_text.proofs.report.write_reports.Goals as goal

pub returns-in_err-write_report : goal.returns-in_err-write_report
returns-in_err-write_report g c =
    let p = err_from_is_err_and c.from_residual.result c.from_residual.ensures.1 in
    rw p.1 (TakesPart-numbered (report_lines c.args.form) c.args.reports.now c.loop-l.l c.index-reports-l.result _ _ _ c.loop-l-test.true c.index-reports-l.is c.loop-l.invariant c.in_err-write_report.ensures)

pub loop-l-preserved : goal.loop-l-preserved
loop-l-preserved g c =
    Appends-numbered (report_lines c.args.form) c.args.reports.now c.loop-l.l c.index-reports-l.result _ _ _ c.loop-l-test.true c.index-reports-l.is c.loop-l.invariant c.in_ok-write_report.ensures
