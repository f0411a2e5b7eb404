use Rattle.listener.proofs.Events.{immediate_is_flushed}
use Rattle.listener.proofs.laws.immediate.Goals as goal

pub returns : goal.returns
returns c = immediate_is_flushed
