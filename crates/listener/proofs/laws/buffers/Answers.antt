use Rattle.listener.proofs.Events.{held_stays, buffers_follow, buffers_stay_within}
use Rattle.listener.proofs.laws.buffers.Goals as goal

pub returns-clause-held : goal.returns-clause-held
returns-clause-held c = held_stays

pub returns-clause-follow : goal.returns-clause-follow
returns-clause-follow c = buffers_follow

pub returns-clause-within : goal.returns-clause-within
returns-clause-within c = buffers_stay_within
