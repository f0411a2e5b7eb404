use Rattle.savefile.proofs.Contents.{one_reading}
use Rattle.savefile.proofs.laws.one_reading.Goals as goal

pub returns : goal.returns
returns c = one_reading
