use Rattle.savefile.proofs.Joining.{IsSavefile-join}
use Rattle.savefile.proofs.laws.joined_parts.Goals as goal

pub returns : goal.returns
returns c = IsSavefile-join
