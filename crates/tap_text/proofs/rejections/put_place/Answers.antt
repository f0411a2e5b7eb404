use Rattle.std.specs.Prelude.{codes}
use Rattle.tap_text.proofs.Putting.{behind, four}
use Rattle.tap_text.proofs.rejections.put_place.Goals as goal

pub returns : goal.returns
returns c = behind _ _ _ _ _ c.write.ensures.bytes (four (codes ",\"capture\":") _ (codes ",\"place\":") _)
