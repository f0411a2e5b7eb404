use Rattle.std.proofs.Common.{sym, ◌∙◌, length}
use Rattle.std.proofs.lemmas.Result.{IfOk-at_ok}
use Rattle.filterlang.specs.Finding.{IsLengthWithin}
use Rattle.filterlang.proofs.Within.{token_within}
use Rattle.filterlang.proofs.lexer.at_front.Goals as goal

pub returns-in-Ok-clause-within : goal.returns-in-Ok-clause-within
returns-in-Ok-clause-within c = IfOk-at_ok (λ token. IsLengthWithin token.1 (length c.args.text.now)) (sym c.token_at.ensures ∙ c.in-Ok.is) (token_within c.args.text.now)
