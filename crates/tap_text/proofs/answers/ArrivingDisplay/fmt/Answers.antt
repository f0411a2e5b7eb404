use Rattle.std.proofs.Common.{rules}
use Rattle.std.proofs.lemmas.List.{append_assoc}
use Rattle.bpfvm.proofs.Images.{written-as}
use Rattle.tap_text.specs.Answers.{placed_text}
use Rattle.tap_text.proofs.answers.ArrivingDisplay.fmt.Goals as goal

pub returns-clause-writes : goal.returns-clause-writes
unfolding placed_text
returns-clause-writes g c = λ plain ok. written-as _ _ _ _ _ (search (append_assoc, rules)) (c.write.ensures.writes plain ok)
