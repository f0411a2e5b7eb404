use Rattle.bpftap_c.proofs.Playing.{puts}
use Rattle.bpftap_c.proofs.steps.bpftap_steps_answers.Goals as goal

pub returns : goal.returns
returns c = puts c.answers_text-answers.result _ _ _ c.answers_text-answers.ensures.ok c.answers_text-answers.ensures.err c.put_played.ensures.text c.put_played.ensures.none
