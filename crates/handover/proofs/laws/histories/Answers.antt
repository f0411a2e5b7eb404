use Rattle.handover.proofs.Settling.{histories_are_settled, stored_are_read_or_pend, kept_are_stored, only_dropped_are_missing}
use Rattle.handover.proofs.laws.histories.Goals as goal

pub returns-clause-settled : goal.returns-clause-settled
returns-clause-settled c = histories_are_settled

pub returns-clause-stored : goal.returns-clause-stored
returns-clause-stored c = stored_are_read_or_pend

pub returns-clause-kept : goal.returns-clause-kept
returns-clause-kept c = kept_are_stored

pub returns-clause-missing : goal.returns-clause-missing
returns-clause-missing c = only_dropped_are_missing
