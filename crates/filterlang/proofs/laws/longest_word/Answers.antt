use Rattle.filterlang.proofs.Longest.{longest_word}
use Rattle.filterlang.proofs.laws.longest_word.Goals as goal

pub returns : goal.returns
returns c = λ text kind n is. longest_word text kind n is
