use Rattle.std.proofs.Common.{sym, arith}
use Rattle.filterlang.proofs.Within.{token_at-nil}
use Rattle.filterlang.proofs.lexer.token_at.Goals as goal

pub returns-in_default-text : goal.returns-in_default-text
returns-in_default-text c = sym (token_at-nil c.args.text.now (omega arith))
