use Rattle.line_text.proofs.Taking.{Takes-flushed}
use Rattle.cli_run.proofs.report.print_reports.Goals as goal

pub returns : goal.returns
returns g c = Takes-flushed _ _ _ _ _ c.in_ok-write_reports.ensures c.flush.ensures.bytes
