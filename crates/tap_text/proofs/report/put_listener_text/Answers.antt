use Rattle.std.specs.Prelude.{codes}
use Rattle.tap_text.proofs.Putting.{in_place, nine}
use Rattle.tap_text.proofs.report.put_listener_text.Goals as goal

pub returns : goal.returns
returns c =
    in_place _ _ _ _ _ c.clear.ensures c.writeln.ensures
    (nine (codes "listener ") _ (codes " received ") _ (codes " matched ") _ (codes " dropped ") _ _)
