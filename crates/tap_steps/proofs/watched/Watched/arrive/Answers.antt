use Rattle.std.proofs.Common.{refl, ◌∙◌}
use Rattle.listener.specs.PlainList.{arrived}
use Rattle.listener.specs.Listening.{seen_by}
use Rattle.listener.specs.Messages.{arrival}
use Rattle.tap_steps.proofs.Stepping.{step_told}
use Rattle.tap_steps.proofs.watched.Watched.arrive.Goals as goal

pub returns : goal.returns
returns c =
    let p = c.args.placed.now in
    let l = c.self.inside.listener in
    rw (← c.self.view_is) (step_told c.answers.ensures.is_right l c.arrive_ref-fed.new.self _ _ _ _ (arrived (seen_by l (arrival p.capture p.place p.packet)) c.arrive_ref-fed.result) _ refl refl
    _ _ _ _ (c.of-before.ensures.closed ∙ c.self.invariant.1) c.of-before.ensures.load c.of-before.ensures.held
    (λ followed some. rw (← c.as_ref-packet.ensures) (rw (← c.self.view_is) at (c.followed_size-size.ensures followed (rw (← c.self.view_is) some) p.capture p.place))) c.answer_of.ensures (rw (← c.as_ref-packet.ensures) c.arrive_ref-fed.ensures) c.in_ok-follow.ensures)
