use Rattle.filterlang.proofs.Lexing.{one_place}
use Rattle.filterlang.proofs.laws.one_failing_place.Goals as goal

pub returns : goal.returns
returns c = λ text b d p q r s. one_place r s
