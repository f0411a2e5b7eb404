use Rattle.std.proofs.Common.{encode_utf8_all, flat_map}
use Rattle.std.specs.Fmt.{HasWritten, IsPlainFormatter}
use Rattle.cli_text.specs.Paths.{shown_characters}
use Rattle.cli_text.proofs.report.write_path.Given as goal

abbrev pub invariant-loop-character : goal.invariant-loop-character
invariant-loop-character g l =
    IsPlainFormatter l.initial.f
    → HasWritten g.W.Write.write_str_gives l.initial.f (encode_utf8_all (flat_map shown_characters l.yielded)) l.f
