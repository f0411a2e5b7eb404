use Rattle.std.proofs.lemmas.Result.{err_from_is_err_and}
use Rattle.line_text.proofs.Taking.{TakesPart-numbered, Appends-numbered}
use Rattle.cli_run.specs.Printed.{interface_told}
use Rattle.cli_run.proofs.report.report_ends.Goals as goal

pub returns-in_err-report_end : goal.returns-in_err-report_end
returns-in_err-report_end g c text =
    let p = err_from_is_err_and c.from_residual.result c.from_residual.ensures.1 in
    rw p.1 (TakesPart-numbered (λ i report. interface_told i report.end) c.args.reports.now c.loop-i.i c.index-reports-i.result _ _ _ c.loop-i-test.true c.index-reports-i.is (c.loop-i.invariant text) (c.in_err-report_end.ensures text))

pub loop-i-preserved : goal.loop-i-preserved
loop-i-preserved g c text =
    Appends-numbered (λ i report. interface_told i report.end) c.args.reports.now c.loop-i.i c.index-reports-i.result _ _ _ c.loop-i-test.true c.index-reports-i.is (c.loop-i.invariant text) (c.in_ok-report_end.ensures text)
