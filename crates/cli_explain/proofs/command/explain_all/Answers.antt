use Rattle.std.proofs.Common.{◌∙◌, sym}
use Rattle.cli_answers.specs.Telling.{printed_status, stop_status}
use Rattle.cli_answers.proofs.Headers.{all-printed, all-read}
use Rattle.cli_answers.proofs.Statuses.{clean-both}
use Rattle.cli_explain.proofs.command.explain_all.Goals as goal

pub returns-in-Ok-clause-handed_on : goal.returns-in-Ok-clause-handed_on
returns-in-Ok-clause-handed_on g c none clean =
    let end = c.in-Ok.end in
    let (printed, read) = clean-both (printed_status end.printed) (stop_status end.read) (sym c.report_lines.ensures.status ∙ clean) in
    c.in-Ok.ensures.handed_on none (all-read end.read read) (all-printed end.printed printed)
