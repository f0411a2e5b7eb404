use Rattle.listener.proofs.Rooms.{kept_fits}
use Rattle.listener.proofs.laws.fitting.Goals as goal

pub returns : goal.returns
returns c = kept_fits
