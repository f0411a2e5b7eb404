use Rattle.savefile.proofs.Contents.{clean_end}
use Rattle.savefile.proofs.laws.clean_end.Goals as goal

pub returns : goal.returns
returns c = clean_end
