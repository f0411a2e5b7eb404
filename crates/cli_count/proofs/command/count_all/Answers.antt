use Rattle.cli_count.proofs.Handing.{handed}
use Rattle.cli_count.proofs.command.count_all.Goals as goal

pub returns-clause-handed_on : goal.returns-clause-handed_on
returns-clause-handed_on g c none clean = handed c.finish_counts.result _ _ _ _ c.report_counting-status.ensures.status clean c.finish_counts.ensures
