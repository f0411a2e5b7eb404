use Rattle.std.proofs.Common.{List, ℕ, nat_eq, sym, ap, ◌∙◌}
use Rattle.std.specs.Prelude.{codes}
use Rattle.std.specs.List.{starts_with}
use Rattle.bpf_asm.specs.Tokens.{past_close}
use Rattle.bpf_asm.proofs.Comments.{close_later, close_begin}
use Rattle.bpf_asm.proofs.Lexing.{rest_whole}
use Rattle.bpf_asm.proofs.lexer.past_close.Goals as goal

pub loop-place-init : goal.loop-place-init
loop-place-init c = close_begin (past_close c.args.text.now)

pub loop-place-preserved : goal.loop-place-preserved
loop-place-preserved c =
    close_later c.args.text.now c.loop-place.place c.loop-place-test.true
    (sym (c.starts_with.ensures.value ∙ ap (λ (xs : List ℕ). starts_with nat_eq xs (codes "*/")) (rest_whole c.args.text.now c.loop-place.place)) ∙ c.if-starts_with.false)
    c.loop-place.invariant
