use Rattle.handover.proofs.Steps.{opens, cuts, joins, copies}
use Rattle.handover.proofs.laws.seats.Goals as goal

pub returns : goal.returns
returns c = (opens, cuts, joins, copies)
