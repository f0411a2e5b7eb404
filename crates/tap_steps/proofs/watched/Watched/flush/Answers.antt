use Rattle.std.proofs.Common.{refl, ◌∙◌}
use Rattle.listener.specs.PlainList.{flushed}
use Rattle.tap_steps.proofs.Stepping.{step_told}
use Rattle.tap_steps.proofs.watched.Watched.flush.Goals as goal

pub returns : goal.returns
returns c =
    rw (← c.self.view_is) (step_told c.answers.ensures.is_right c.self.inside.listener c.flush-full.new.self _ _ _ _ (flushed c.flush-full.result) _ refl refl
    _ _ _ _ (c.of-before.ensures.closed ∙ c.self.invariant.1) c.of-before.ensures.load c.of-before.ensures.held (λ _ _. refl) c.answer_of.ensures c.flush-full.ensures c.in_ok-follow.ensures)
