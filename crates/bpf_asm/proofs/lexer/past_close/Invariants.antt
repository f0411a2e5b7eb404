use Rattle.std.proofs.Common.{◌≡◌, drop}
use Rattle.bpf_asm.specs.Tokens.{past_close}
use Rattle.bpf_asm.proofs.Comments.{further}
use Rattle.bpf_asm.proofs.lexer.past_close.Given as goal

abbrev pub invariant-loop-place : goal.invariant-loop-place
invariant-loop-place l = past_close l.text ≡ further l.place (past_close (drop l.place l.text))
