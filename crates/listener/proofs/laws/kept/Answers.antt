use Rattle.listener.proofs.Kept.{matched_are_kept_or_dropped, kept_is_thinned, kept_are_accepted}
use Rattle.listener.proofs.laws.kept.Goals as goal

pub returns-clause-matched : goal.returns-clause-matched
returns-clause-matched c = matched_are_kept_or_dropped

pub returns-clause-thinned : goal.returns-clause-thinned
returns-clause-thinned c = kept_is_thinned

pub returns-clause-accepted : goal.returns-clause-accepted
returns-clause-accepted c = kept_are_accepted
