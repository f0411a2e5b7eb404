use Rattle.std.proofs.Common.{◌-◌, length}
use Rattle.bpf_asm.proofs.Lexing.{LexedTo}
use Rattle.bpf_asm.proofs.lexer.tokens_of.Given as goal

abbrev pub invariant-places : goal.invariant-places
invariant-places l = LexedTo l.line l.tokens.items l.place

abbrev pub decreases-places : goal.decreases-places
decreases-places l = length l.line - l.place
