use Rattle.std.proofs.Common.{Ok, Err, ap}
use Rattle.cli_cut.proofs.Telling.{print-quiet}
use Rattle.cli_cut.proofs.command.check_and_report.Goals as goal

pub returns-in-Err-clause-checks : goal.returns-in-Err-clause-checks
returns-in-Err-clause-checks g c tells = (Err c.in-Err.refusal, (c.in-Err.ensures.refused tells, ap g.O.Write.contents c.in-Err.ensures.silent), c.report_refusal.ensures.status, c.report_refusal.ensures.told)

pub returns-in-Ok-clause-checks : goal.returns-in-Ok-clause-checks
returns-in-Ok-clause-checks g c tells = (
  Ok c.in-Ok.printed,
  c.in-Ok.ensures.checks tells,
  c.report_print-status.ensures.status,
  print-quiet g.E.FaultSink.takes_hints g.E.FaultSink.failed g.E.Write.contents g.E.FaultSink.fault_form c.in-Ok.printed c.args.err.now _ _ c.report_print-status.ensures.told c.hint_print.ensures.quiet,
)
