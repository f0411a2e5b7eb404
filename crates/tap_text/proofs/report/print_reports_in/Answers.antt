use Rattle.line_text.proofs.Taking.{Takes-flushed}
use Rattle.tap_text.proofs.report.print_reports_in.Goals as goal

pub returns : goal.returns
returns g c = Takes-flushed _ _ _ _ _ c.in_ok-write_reports.ensures c.flush.ensures.bytes
