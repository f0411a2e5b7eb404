use Rattle.std.proofs.Common.{◌∙◌, sym}
use Rattle.filterlang.proofs.Octets.{no_dotted}
use Rattle.filterlang.proofs.lexer.numbers.dotted_of.Goals as goal

-- parts that are no numbers, or too many
pub returns-in_err-numbers : goal.returns-in_err-numbers
returns-in_err-numbers c = c.from_residual.ensures ∙ sym (no_dotted _ c.in_err-numbers.ensures.none)
