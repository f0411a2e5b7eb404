use Rattle.filter_diagrams.proofs.Runs.{programs-say-yes}
use Rattle.filter_diagrams.proofs.laws.programs_say_yes.Goals as goal

pub returns : goal.returns
returns c = programs-say-yes
