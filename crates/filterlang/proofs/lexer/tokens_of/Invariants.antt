use Rattle.std.proofs.Common.{◌-◌, length}
use Rattle.filterlang.proofs.Lexing.{LexedTo}
use Rattle.filterlang.proofs.lexer.tokens_of.Given as goal

abbrev pub invariant-places : goal.invariant-places
invariant-places l = LexedTo l.text l.tokens.items l.place

abbrev pub decreases-places : goal.decreases-places
decreases-places l = length l.text - l.place
