use Rattle.handover.proofs.Settling.{own_runs_are_right}
use Rattle.handover.proofs.laws.own_runs.Goals as goal

pub returns : goal.returns
returns c = own_runs_are_right
