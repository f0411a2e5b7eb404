use Rattle.handover.proofs.Steps.{sees_closed, sees_turn, sets_turn, sets_ended}
use Rattle.handover.proofs.laws.feeder_steps.Goals as goal

pub returns-clause-closed : goal.returns-clause-closed
returns-clause-closed c = sees_closed

pub returns-clause-turn : goal.returns-clause-turn
returns-clause-turn c = sees_turn

pub returns-clause-gives : goal.returns-clause-gives
returns-clause-gives c = sets_turn

pub returns-clause-ends : goal.returns-clause-ends
returns-clause-ends c = sets_ended
