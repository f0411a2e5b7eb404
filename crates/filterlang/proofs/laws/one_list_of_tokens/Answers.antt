use Rattle.filterlang.proofs.Lexing.{one_list}
use Rattle.filterlang.proofs.laws.one_list_of_tokens.Goals as goal

pub returns : goal.returns
returns c = λ text xs ys r s. one_list r s
