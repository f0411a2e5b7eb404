use Rattle.std.proofs.Common.{◌∙◌, sym}
use Rattle.filterlang.proofs.Octets.{no_ethernet}
use Rattle.filterlang.proofs.lexer.numbers.ethernet_of.Goals as goal

-- parts that are no numbers, or too many
pub returns-in_err-octets : goal.returns-in_err-octets
returns-in_err-octets c = c.from_residual.ensures ∙ sym (no_ethernet _ c.in_err-octets.ensures.none)
