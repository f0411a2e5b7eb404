use Rattle.listener.proofs.Events.{runs_append, legal_appends, batches_append}
use Rattle.listener.proofs.laws.runs.Goals as goal

pub returns-clause-state : goal.returns-clause-state
returns-clause-state c = runs_append

pub returns-clause-legal : goal.returns-clause-legal
returns-clause-legal c = legal_appends

pub returns-clause-batches : goal.returns-clause-batches
returns-clause-batches c = batches_append
