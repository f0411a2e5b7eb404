use Rattle.std.specs.Prelude.{codes}
use Rattle.line_text.specs.Texts.{end_of_line}
use Rattle.tap_text.specs.Printed.{message_object, part_member}
use Rattle.tap_text.proofs.Putting.{in_place_twice, eighteen}
use Rattle.tap_text.proofs.objects.put_message_object.Goals as goal

pub returns : goal.returns
unfolding message_object
returns c =
    let put =
    in_place_twice _ _ _ _ _ _ _ c.clear.ensures c.in_ok-write.ensures c.writeln.ensures
    (eighteen (codes "{\"listener\":") _ (codes ",") (part_member c.args.part) (codes ",\"capture\":") _ (codes ",\"place\":") _
    (codes ",\"seconds\":") _ (codes ",\"nanoseconds\":") _ (codes ",\"length\":") _ (codes ",\"kept\":") _ (codes "}") end_of_line) in
    rw c.as_slice.ensures at put
