use Rattle.listener.proofs.Events.{counts_stay_ordered}
use Rattle.listener.proofs.laws.counts.Goals as goal

pub returns-clause-ordered : goal.returns-clause-ordered
returns-clause-ordered c = counts_stay_ordered
