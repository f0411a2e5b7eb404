use Rattle.std.proofs.Common.{refl, subst}
use Rattle.line_text.specs.declared.form.NamingForm.{NamingForm}
use Rattle.cli_split.specs.declared.outcome.SplitOutcome.TheVariants.{Ended, Refused}
use Rattle.cli_split.specs.Statuses.{ReportsSplit}
use Rattle.cli_split.proofs.Silence.{refused}
use Rattle.cli_split.proofs.command.split_and_report.Goals as goal

pub returns-in-Refused-clause-splits : goal.returns-in-Refused-clause-splits
returns-in-Refused-clause-splits g c tells = (Refused c.in-Refused.refusal, c.in-Refused.ensures.splits tells, (c.report_refused.ensures.status, refl), c.report_refused.ensures.told)

pub returns-in-Ended-clause-splits : goal.returns-in-Ended-clause-splits
returns-in-Ended-clause-splits g c tells = (
  Ended c.in-Ended.report,
  c.in-Ended.ensures.splits tells,
  subst (λ (form : NamingForm). ReportsSplit form c.in-Ended.report.lines.items c.in-Ended.report.end (g.O.Write.contents c.args.out.now) (g.O.Write.contents c.report_ended.new.out) c.report_ended.result.status) c.form_of.ensures c.report_ended.ensures.prints,
  c.report_ended.ensures.told,
)

pub returns-in-Refused-clause-silent : goal.returns-in-Refused-clause-silent
returns-in-Refused-clause-silent g c = λ clean off. absurd (refused c.in-Refused.refusal _ c.report_refused.ensures.status clean)
