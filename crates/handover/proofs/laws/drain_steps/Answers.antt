use Rattle.handover.proofs.Steps.{looks_ended, looks_turn, clears, sets_closed}
use Rattle.handover.proofs.laws.drain_steps.Goals as goal

pub returns-clause-ended : goal.returns-clause-ended
returns-clause-ended c = looks_ended

pub returns-clause-turn : goal.returns-clause-turn
returns-clause-turn c = looks_turn

pub returns-clause-clears : goal.returns-clause-clears
returns-clause-clears c = clears

pub returns-clause-closes : goal.returns-clause-closes
returns-clause-closes c = sets_closed
