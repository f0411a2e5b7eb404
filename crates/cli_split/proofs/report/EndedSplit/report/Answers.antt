use Rattle.std.proofs.Common.{ap, ◌∙◌}
use Rattle.cli_text.specs.Status.{greater}
use Rattle.cli_text.specs.Telling.{print_status_of}
use Rattle.cli_split.specs.Statuses.{split_status}
use Rattle.cli_split.proofs.Printing.{printed-ok}
use Rattle.cli_split.proofs.Silence.{all-well}
use Rattle.cli_split.proofs.report.EndedSplit.report.Goals as goal

pub returns-clause-told : goal.returns-clause-told
returns-clause-told g c = (c.print_split-printed.result, c.report_printed-status.new.err, c.report_printed-status.ensures.told, c.report_faults.ensures.told)

pub returns-clause-handed_on : goal.returns-clause-handed_on
returns-clause-handed_on g c = λ none not_failed.
    let status = c.report_printed-status in
    printed-ok c.print_split-printed.result (split_status c.args.self.now.end.now) _ _ (c.max.ensures ∙ ap (λ s. greater s c.report_faults.result) status.ensures.status ∙ ap (λ s. greater (print_status_of c.print_split-printed.result) s) c.report_faults.ensures.status) not_failed (c.print_split-printed.ensures.handed_on none)

pub returns-clause-silent : goal.returns-clause-silent
returns-clause-silent g c = λ clean.
    let status = c.report_printed-status in
    let well = all-well c.print_split-printed.result c.args.self.now.end.now status.result c.report_faults.result _ c.max.ensures status.ensures.status c.report_faults.ensures.status clean in
    c.report_faults.ensures.silent well.1 ∙ status.ensures.silent well.0
