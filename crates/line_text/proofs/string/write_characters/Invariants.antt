use Rattle.std.proofs.Common.{flat_map}
use Rattle.std.specs.Fmt.{HasWritten, IsPlainFormatter}
use Rattle.line_text.specs.Strings.{escape_text}
use Rattle.line_text.proofs.string.write_characters.Given as goal

-- the characters so far were written
abbrev pub invariant-loop-character : goal.invariant-loop-character
invariant-loop-character g l =
    IsPlainFormatter l.initial.f → HasWritten g.W.Write.write_str_gives l.initial.f (flat_map escape_text l.yielded) l.f
