use Rattle.filterlang.proofs.Lexing.{answered}
use Rattle.filterlang.proofs.laws.one_or_the_other.Goals as goal

pub returns : goal.returns
returns c = λ text. answered text
