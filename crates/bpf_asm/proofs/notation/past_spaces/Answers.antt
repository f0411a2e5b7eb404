use Rattle.std.proofs.Common.{drop, ap, ◌∙◌}
use Rattle.bpf_asm.proofs.Lexing.{rest_whole}
use Rattle.bpf_asm.proofs.notation.past_spaces.Goals as goal

pub returns : goal.returns
returns c = rest_whole c.args.text.now c.space_count-count.result ∙ ap (λ n. drop n c.args.text.now) c.space_count-count.ensures.value
