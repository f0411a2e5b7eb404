use Rattle.std.specs.Prelude.{codes}
use Rattle.bpfvm.proofs.Images.{written-as}
use Rattle.tap_text.specs.Answers.{placed_members}
use Rattle.tap_text.proofs.Putting.{ten}
use Rattle.tap_text.proofs.answers.ArrivingMembersDisplay.fmt.Goals as goal

pub returns-clause-writes : goal.returns-clause-writes
unfolding placed_members
returns-clause-writes g c = λ plain ok.
    written-as _ _ _ _ _ (ten (codes "\"capture\":") _ (codes ",\"place\":") _ (codes ",\"seconds\":") _ (codes ",\"nanoseconds\":") _ (codes ",\"length\":") _)
    (c.write.ensures.writes plain ok)
