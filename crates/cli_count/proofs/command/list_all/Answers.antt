use Rattle.cli_count.proofs.Handing.{handed}
use Rattle.cli_count.proofs.command.list_all.Goals as goal

pub returns-clause-handed_on : goal.returns-clause-handed_on
returns-clause-handed_on g c none clean = handed c.finish_paths.result _ _ _ _ c.report_counting.ensures.status clean c.finish_paths.ensures
