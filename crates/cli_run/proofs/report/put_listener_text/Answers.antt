use Rattle.std.specs.Prelude.{codes}
use Rattle.cli_run.proofs.Printing.{in_place, regrouped}
use Rattle.cli_run.proofs.report.put_listener_text.Goals as goal

pub returns : goal.returns
returns g c =
    in_place _ _ _ _ _ c.clear.ensures c.writeln.ensures
    (regrouped (codes "interface ") _ (codes " listener ") _ (codes " received ") _ (codes " matched ") _ (codes " dropped ") _ (codes " written ") _ (codes " ") _ _)
