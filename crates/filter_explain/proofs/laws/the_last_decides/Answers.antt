use Rattle.filter_explain.proofs.Deciding.{last-decides}
use Rattle.filter_explain.proofs.laws.the_last_decides.Goals as goal

pub returns : goal.returns
returns c = last-decides
