use Rattle.std.proofs.Common.{arith}
use Rattle.std.proofs.lemmas.Result.{IfOk-weaker}
use Rattle.filterlang.specs.Tokens.{Lexes}
use Rattle.filterlang.proofs.Lexing.{one_list, in_order, lexed_unless, stuck_unless}
use Rattle.filterlang.proofs.lexer.lex.Goals as goal

pub returns-clause-only : goal.returns-clause-only
returns-clause-only c =
    IfOk-weaker _ (λ found. Lexes c.args.text.now 0 found.items) _ (λ found tokens others other. one_list other tokens) (rw c.as_bytes.ensures.value at c.tokens_of.ensures.tokens)

pub returns-clause-in_order : goal.returns-clause-in_order
returns-clause-in_order c =
    IfOk-weaker _ (λ found. Lexes c.args.text.now 0 found.items) _ (λ found tokens. in_order (omega arith) tokens) (rw c.as_bytes.ensures.value at c.tokens_of.ensures.tokens)

pub returns-clause-lexed : goal.returns-clause-lexed
returns-clause-lexed c = λ tokens le is. lexed_unless _ c.args.text.now tokens le is (rw c.as_bytes.ensures.value at c.tokens_of.ensures.fault)

pub returns-clause-named : goal.returns-clause-named
returns-clause-named c = λ cause place le is.
    stuck_unless _ (λ found. found.items) c.args.text.now cause place le is (rw c.as_bytes.ensures.value at c.tokens_of.ensures.tokens) (rw c.as_bytes.ensures.value at c.tokens_of.ensures.fault)
