use Rattle.handover.proofs.Fresh.{feeder_tells, drain_tells, silence_changes_nothing}
use Rattle.handover.proofs.laws.fresh_steps.Goals as goal

pub returns-clause-feeder : goal.returns-clause-feeder
returns-clause-feeder c = feeder_tells

pub returns-clause-drain : goal.returns-clause-drain
returns-clause-drain c = drain_tells

pub returns-clause-silent : goal.returns-clause-silent
returns-clause-silent c = silence_changes_nothing
