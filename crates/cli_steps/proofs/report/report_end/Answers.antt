use Rattle.cli_steps.proofs.report.report_end.Goals as goal

pub returns-clause-tells : goal.returns-clause-tells
returns-clause-tells g c = rw c.print_status-status.ensures at c.report_both.ensures
