use Rattle.handover.proofs.Fresh.{no_end_is_overlooked, no_hold_is_overlooked, no_close_is_overlooked, no_hold_is_made_up, no_end_is_made_up, no_close_is_made_up}
use Rattle.handover.proofs.laws.wrong_steps.Goals as goal

pub returns-clause-end_overlooked : goal.returns-clause-end_overlooked
returns-clause-end_overlooked c = no_end_is_overlooked

pub returns-clause-hold_overlooked : goal.returns-clause-hold_overlooked
returns-clause-hold_overlooked c = no_hold_is_overlooked

pub returns-clause-close_overlooked : goal.returns-clause-close_overlooked
returns-clause-close_overlooked c = no_close_is_overlooked

pub returns-clause-hold_made_up : goal.returns-clause-hold_made_up
returns-clause-hold_made_up c = no_hold_is_made_up

pub returns-clause-end_made_up : goal.returns-clause-end_made_up
returns-clause-end_made_up c = no_end_is_made_up

pub returns-clause-close_made_up : goal.returns-clause-close_made_up
returns-clause-close_made_up c = no_close_is_made_up
