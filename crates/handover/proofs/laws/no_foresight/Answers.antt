use Rattle.handover.proofs.Foresight.{no_sight_suits_both}
use Rattle.handover.proofs.laws.no_foresight.Goals as goal

pub returns : goal.returns
returns c = no_sight_suits_both
