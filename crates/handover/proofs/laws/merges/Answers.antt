use Rattle.handover.proofs.Settling.{merges_have_both}
use Rattle.handover.proofs.laws.merges.Goals as goal

pub returns : goal.returns
returns c = merges_have_both
