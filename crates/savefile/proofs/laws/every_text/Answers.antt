use Rattle.savefile.proofs.EveryText.{refused_or_held}
use Rattle.savefile.proofs.laws.every_text.Goals as goal

pub returns : goal.returns
returns c = refused_or_held
