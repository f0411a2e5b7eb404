use Rattle.std.specs.Prelude.{codes}
use Rattle.line_text.specs.Texts.{end_of_line}
use Rattle.tap_text.proofs.Putting.{in_place, four}
use Rattle.tap_text.proofs.answers.put_no_packet.Goals as goal

pub returns-in-Text : goal.returns-in-Text
returns-in-Text c =
    rw c.in-Text.is (in_place _ _ _ _ _ c.clear.ensures.bytes c.writeln.ensures.bytes (four (codes "step ") _ (codes " arrive, no packet is left") end_of_line))
