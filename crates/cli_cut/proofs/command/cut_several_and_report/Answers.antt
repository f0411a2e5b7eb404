use Rattle.std.proofs.Common.{Ok, Err, sym}
use Rattle.cli_cut.proofs.command.cut_several_and_report.Goals as goal

pub returns-then-is_standard_output-clause-cuts : goal.returns-then-is_standard_output-clause-cuts
returns-then-is_standard_output-clause-cuts g c tells =
    let unread = c.is_unread.ensures c.if-is_unread.true in
    (Ok c.in-Ok.end, c.in-Ok.ensures.cuts tells, sym unread, λ not_failed. absurd (not_failed unread))

pub returns-else-is_unread-clause-cuts : goal.returns-else-is_unread-clause-cuts
returns-else-is_unread-clause-cuts g c tells = (Ok c.in-Ok.end, c.in-Ok.ensures.cuts tells, c.report_captures.ensures.status, λ not_failed. c.report_captures.ensures.told)

pub returns-in-Err-clause-cuts : goal.returns-in-Err-clause-cuts
returns-in-Err-clause-cuts g c tells = (Err c.in-Err.refusal, c.in-Err.ensures.cuts tells, c.report_refusal.ensures.status, c.report_refusal.ensures.told)
