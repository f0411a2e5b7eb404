use Rattle.filterlang.proofs.Longest.{longest_sign}
use Rattle.filterlang.proofs.laws.longest_sign.Goals as goal

pub returns : goal.returns
returns c = λ text kind n is. longest_sign text kind n is
