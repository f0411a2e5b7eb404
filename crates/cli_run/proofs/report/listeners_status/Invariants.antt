use Rattle.std.proofs.Common.{◌≡◌, fold, take}
use Rattle.cli_text.specs.Status.{greater}
use Rattle.cli_text.specs.declared.status.Status.TheVariants.{Clean}
use Rattle.cli_run.specs.Replaying.{task_status}
use Rattle.cli_run.proofs.report.listeners_status.Given as goal

-- the greatest status of those before the index
abbrev pub invariant-loop-report : goal.invariant-loop-report
invariant-loop-report g l = l.status ≡ fold (λ status report. greater status (task_status report.end)) Clean (take l.report-index l.reports)
