use Rattle.std.proofs.Common.{ap, inl, inr, refl, sym}
use Rattle.cli_cut.specs.Telling.{status_of}
use Rattle.cli_cut.specs.declared.outcome.CutOutcome.TheVariants.{Ended, Refused}
use Rattle.cli_cut.proofs.command.cut_and_report.Goals as goal

pub returns-then-is_standard_output-clause-cuts : goal.returns-then-is_standard_output-clause-cuts
returns-then-is_standard_output-clause-cuts g c tells =
    let unread = c.is_unread.ensures c.if-is_unread.true in
    (Ended c.in-Ended.report, c.in-Ended.ensures.cuts tells, sym (ap status_of unread.0), inr (unread.0, unread.1, (c.is_standard_output.ensures tells).0 c.if-is_standard_output.true, refl))

pub returns-else-is_unread-clause-cuts : goal.returns-else-is_unread-clause-cuts
returns-else-is_unread-clause-cuts g c tells = (Ended c.in-Ended.report, c.in-Ended.ensures.cuts tells, c.report_cut.ensures.status, inl c.report_cut.ensures.told)

pub returns-in-Refused-clause-cuts : goal.returns-in-Refused-clause-cuts
returns-in-Refused-clause-cuts g c tells = (Refused c.in-Refused.refusal, c.in-Refused.ensures.cuts tells, c.report_refusal.ensures.status, c.report_refusal.ensures.told)
