use Rattle.std.proofs.lemmas.Result.{err_from_is_err_and}
use Rattle.line_text.proofs.Taking.{TakesPart-numbered, Appends-numbered}
use Rattle.cli_run.specs.Printed.{interface_lines}
use Rattle.cli_run.proofs.report.write_reports.Goals as goal

pub returns-in_err-write_listeners : goal.returns-in_err-write_listeners
returns-in_err-write_listeners g c =
    let p = err_from_is_err_and c.from_residual.result c.from_residual.ensures.1 in
    rw p.1 (TakesPart-numbered (interface_lines c.args.form) c.args.reports.now c.loop-i.i c.index-reports-i.result _ _ _ c.loop-i-test.true c.index-reports-i.is c.loop-i.invariant (rw c.as_slice.ensures.value at c.in_err-write_listeners.ensures))

pub loop-i-preserved : goal.loop-i-preserved
loop-i-preserved g c =
    Appends-numbered (interface_lines c.args.form) c.args.reports.now c.loop-i.i c.index-reports-i.result _ _ _ c.loop-i-test.true c.index-reports-i.is c.loop-i.invariant (rw c.as_slice.ensures.value at c.in_ok-write_listeners.ensures)
