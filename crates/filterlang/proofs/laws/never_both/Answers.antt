use Rattle.filterlang.proofs.Lexing.{never_both}
use Rattle.filterlang.proofs.laws.never_both.Goals as goal

pub returns : goal.returns
returns c = λ text xs d p r s. never_both r s
