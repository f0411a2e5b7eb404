use Rattle.std.proofs.lemmas.Result.{err_from_is_err_and}
use Rattle.cli_steps.specs.Playing.{failed_output_line, record_fault_line}
use Rattle.line_text.proofs.Taking.{TakesPart-more, Takes-then}
use Rattle.cli_steps.proofs.report.report_both.Goals as goal

pub returns-in_err-report_failed_output : goal.returns-in_err-report_failed_output
returns-in_err-report_failed_output g c =
    let p = err_from_is_err_and c.from_residual.result c.from_residual.ensures.1 in
    rw p.1 (TakesPart-more _ _ (failed_output_line c.args.printed) (record_fault_line c.args.record_fault) c.in_err-report_failed_output.ensures)

pub returns : goal.returns
returns g c = Takes-then _ _ _ (failed_output_line c.args.printed) (record_fault_line c.args.record_fault) _ c.in_ok-report_failed_output.ensures c.report_record_fault.ensures
