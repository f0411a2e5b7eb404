use Rattle.std.proofs.Common.{ap, fold, sym, ◌∙◌, take}
use Rattle.std.proofs.lemmas.List.{take_all}
use Rattle.std.proofs.lemmas.List.Sums.{fold_more}
use Rattle.cli_text.specs.Status.{greater}
use Rattle.cli_text.specs.declared.status.Status.TheVariants.{Clean}
use Rattle.cli_run.specs.Replaying.{report_status}
use Rattle.cli_run.proofs.report.run_status.Goals as goal

pub loop-report-preserved : goal.loop-report-preserved
loop-report-preserved g c =
    c.max-status.ensures
    ∙ ap (λ s. greater s c.report_status.result) c.loop-report.invariant
    ∙ ap (λ s. greater (fold (λ status report. greater status (report_status report)) Clean (take c.loop-report.report-index c.args.reports.now)) s) c.report_status.ensures
    ∙ ap (λ report. greater (fold (λ status report. greater status (report_status report)) Clean (take c.loop-report.report-index c.args.reports.now)) (report_status report)) c.report-item.is
    ∙ sym (fold_more (λ status report. greater status (report_status report)) Clean c.args.reports.now c.loop-report.report-index c.report-item.result c.loop-report-test.true)

pub returns : goal.returns
returns g c = rw (take_all c.loop-report.report-index c.args.reports.now c.loop-report-test.false) at c.loop-report.invariant
