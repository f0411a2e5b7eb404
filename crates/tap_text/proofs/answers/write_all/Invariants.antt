use Rattle.std.proofs.Common.{take}
use Rattle.std.specs.Io.KnownBytes.{Appends}
use Rattle.line_text.specs.Texts.{numbered}
use Rattle.tap_text.specs.Answers.{arrived_line}
use Rattle.tap_text.proofs.answers.write_all.Given as goal

abbrev pub invariant-loop-l : goal.invariant-loop-l
invariant-loop-l g l = Appends (g.O.Write.contents l.fn.out) (g.O.Write.contents l.out) (numbered (arrived_line l.head.form l.head.n l.placed) 0 (take l.l l.all))
