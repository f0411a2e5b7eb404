use Rattle.cli_run.proofs.FirstBad.{none_bad}
use Rattle.cli_run.proofs.laws.none_is_bad.Goals as goal

pub returns : goal.returns
returns c = none_bad
