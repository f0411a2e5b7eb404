use Rattle.std.specs.Prelude.{codes}
use Rattle.line_text.specs.Texts.{end_of_line}
use Rattle.cli_run.specs.Printed.{end_members, listener_object}
use Rattle.cli_run.proofs.Printing.{in_place_twice, sixteen}
use Rattle.cli_run.proofs.object.put_listener_object.Goals as goal

pub returns : goal.returns
unfolding listener_object
returns g c =
    in_place_twice _ _ _ _ _ _ _ c.clear.ensures c.in_ok-write.ensures c.writeln.ensures
    (sixteen (codes "{\"interface\":") _ (codes ",\"listener\":") _ (codes ",\"received\":") _ (codes ",\"matched\":") _
    (codes ",\"dropped\":") _ (codes ",\"written\":") _ (codes ",") (end_members c.args.report.now.end) (codes "}") end_of_line)
