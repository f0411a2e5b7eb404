use Rattle.std.specs.Prelude.{codes}
use Rattle.line_text.specs.Texts.{end_of_line}
use Rattle.tap_text.proofs.Putting.{in_place, eight}
use Rattle.tap_text.proofs.answers.put_own.Goals as goal

pub returns-in-Json : goal.returns-in-Json
returns-in-Json c =
    rw c.in-Json.is (in_place _ _ _ _ _ c.clear.ensures.bytes c.writeln-in-Json.ensures.bytes
    (eight (codes "{\"step\":") _ (codes ",\"action\":\"") _ (codes "\",\"listener\":") _ (codes "}") end_of_line))
