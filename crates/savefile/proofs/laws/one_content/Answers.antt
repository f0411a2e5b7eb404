use Rattle.savefile.proofs.Contents.{one_content}
use Rattle.savefile.proofs.laws.one_content.Goals as goal

pub returns : goal.returns
returns c = one_content
