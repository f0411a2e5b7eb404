use Rattle.cli_run.proofs.FirstBad.{first_bad_one}
use Rattle.cli_run.proofs.laws.first_bad_is_one.Goals as goal

pub returns : goal.returns
returns c = first_bad_one
