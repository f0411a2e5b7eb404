use Rattle.std.proofs.Common.{rules}
use Rattle.filterlang.proofs.Answered.{text_reads, text_only, text_accepted, text_refused}
use Rattle.filterlang.proofs.parser.parse.Goals as goal

pub returns-clause-reads : goal.returns-clause-reads
returns-clause-reads c =
    text_reads c.tree.result c.args.text.now c.in_ok-tokens.tokens.items (rw c.deref.ensures.value at c.tree.ensures) (c.in_ok-tokens.ensures.tokens, c.in_ok-tokens.ensures.only)

pub returns-clause-only : goal.returns-clause-only
returns-clause-only c =
    text_only c.tree.result c.args.text.now c.in_ok-tokens.tokens.items (rw c.deref.ensures.value at c.tree.ensures) (c.in_ok-tokens.ensures.tokens, c.in_ok-tokens.ensures.only)

pub returns-clause-refused : goal.returns-clause-refused
returns-clause-refused c =
    text_refused c.tree.result c.args.text.now c.in_ok-tokens.tokens.items (rw c.deref.ensures.value at c.tree.ensures) (c.in_ok-tokens.ensures.tokens, c.in_ok-tokens.ensures.only) (search rules)

pub returns-clause-accepted : goal.returns-clause-accepted
returns-clause-accepted c =
    λ t le r. text_accepted c.tree.result c.args.text.now c.in_ok-tokens.tokens.items (rw c.deref.ensures.value at c.tree.ensures) (c.in_ok-tokens.ensures.tokens, c.in_ok-tokens.ensures.only) t r
