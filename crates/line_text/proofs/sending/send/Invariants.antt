use Rattle.std.proofs.Common.{◌+◌, length}
use Rattle.line_text.proofs.Left.{IsLeft}
use Rattle.line_text.proofs.sending.send.Given as goal

-- a front of the text was taken, and the rest is left
abbrev pub invariant-loop-rest : goal.invariant-loop-rest
invariant-loop-rest g l = IsLeft (g.W.Write.contents l.fn.out) (g.W.Write.contents l.out) l.text l.rest

abbrev pub decreases-loop-rest : goal.decreases-loop-rest
decreases-loop-rest g l = length l.rest + l.retries
