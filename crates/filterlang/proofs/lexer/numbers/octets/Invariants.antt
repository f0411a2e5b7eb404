use Rattle.std.proofs.Common.{length}
use Rattle.filterlang.proofs.Octets.{Read}
use Rattle.filterlang.proofs.lexer.numbers.octets.Given as goal

abbrev pub invariant-loop-part : goal.invariant-loop-part
invariant-loop-part l = Read l.base l.most l.fn.mark l.run l.numbers l.count (length l.yielded)
