use Rattle.std.specs.Prelude.{codes}
use Rattle.bpfvm.proofs.Images.{written-as}
use Rattle.tap_text.proofs.Putting.{four}
use Rattle.tap_text.proofs.members.HoldMembersDisplay.fmt.Goals as goal

pub returns-clause-writes : goal.returns-clause-writes
returns-clause-writes g c = λ plain ok.
    written-as _ _ _ _ _ (four (codes "\"hold_step\":") _ (codes ",\"hold_packets\":") _) (c.write.ensures.writes plain ok)
