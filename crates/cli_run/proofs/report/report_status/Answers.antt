use Rattle.std.proofs.Common.{List, ap, ◌∙◌}
use Rattle.cli_text.specs.Status.{greater}
use Rattle.replay_types.specs.declared.report.ListenerReport.{ListenerReport}
use Rattle.cli_run.specs.Replaying.{interface_status, listeners_status}
use Rattle.cli_run.proofs.report.report_status.Goals as goal

pub returns : goal.returns
returns g c =
    c.max.ensures
    ∙ ap (λ s. greater s c.listeners_status.result) c.interface_status.ensures
    ∙ ap (λ s. greater (interface_status c.args.report.now.end) s) (c.listeners_status.ensures ∙ ap (λ (reports : List (ListenerReport g.row.W.Denot)). listeners_status reports) c.as_slice.ensures.value)
