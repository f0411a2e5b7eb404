use Rattle.std.proofs.Common.{encode_utf8_all, map}
use Rattle.std.specs.Fmt.{HasWritten, IsPlainFormatter}
use Rattle.visible_text.specs.Hidden.{marked}
use Rattle.visible_text.proofs.write_marked.Given as goal

-- the characters so far were written
abbrev pub invariant-loop-character : goal.invariant-loop-character
invariant-loop-character g l =
    IsPlainFormatter l.initial.f → HasWritten g.W.Write.write_str_gives l.initial.f (encode_utf8_all (map marked l.yielded)) l.f
