use Rattle.std.specs.Prelude.{codes}
use Rattle.line_text.specs.Texts.{end_of_line}
use Rattle.tap_text.specs.Printed.{listener_object}
use Rattle.tap_text.proofs.Putting.{in_place, ten}
use Rattle.tap_text.proofs.objects.put_listener_object.Goals as goal

pub returns : goal.returns
unfolding listener_object
returns c =
    in_place _ _ _ _ _ c.clear.ensures c.writeln.ensures
    (ten (codes "{\"listener\":") _ (codes ",\"received\":") _ (codes ",\"matched\":") _ (codes ",\"dropped\":") _ (codes "}") end_of_line)
