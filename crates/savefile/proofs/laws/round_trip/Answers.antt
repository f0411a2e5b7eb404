use Rattle.savefile.proofs.Again.{held_again}
use Rattle.savefile.proofs.laws.round_trip.Goals as goal

pub returns : goal.returns
returns c = held_again
