use Rattle.std.proofs.Common.{◌++◌, ◌∷◌, [], Some, None, map, option_map, refl, ap, ◌∙◌}
use Rattle.std.proofs.lemmas.List.{map-append}
use Rattle.listener.specs.PlainList.{read}
use Rattle.tap_steps.specs.Watching.{watch, with_answer}
use Rattle.tap_steps.proofs.Stepping.{step_is, step_told, told_as}
use Rattle.tap_steps.proofs.watched.Watched.read.Goals as goal

pub returns-in-Full : goal.returns-in-Full
returns-in-Full c =
    let l = c.self.inside.listener in
    let bs = map (λ b. b.items) c.self.inside.batches.items in
    let before = option_map (λ a. a.items) c.self.inside.answers in
    let e = read (Some c.in-Full.full.messages) in
    let all = ap (map (λ b. b.items)) c.in_ok-push-in-Full.ensures.items ∙ map-append (λ b. b.items) c.self.inside.batches.items _
    ∙ ap (λ m. bs ++ m ∷ []) (c.in_ok-copy-in-Full.ensures ∙ ap (λ k. k ++ c.in-Full.full.messages) c.in_ok-batch-in-Full.ensures.items) in
    let told = c.in_ok-follow-in-Full.ensures
    ∙ ap (λ a. with_answer a before) (c.answer_of.ensures ∙ told_as l.list e _ _ _ _ (c.of-before.ensures.closed ∙ c.self.invariant.1) c.of-before.ensures.load c.of-before.ensures.held refl) in
    rw (← c.in_ok-empty.ensures.same, ← c.self.view_is)
    ((λ i. watch c.read.new.self (all i) (told i)) ∙ step_is c.answers.ensures.is_right l c.read.new.self bs before e _ refl (c.read.ensures.full _ c.in-Full.is).0)

pub returns-in-Nothing : goal.returns-in-Nothing
returns-in-Nothing c =
    rw (← c.in_ok-empty.ensures.same, ← c.self.view_is)
    (step_told c.answers.ensures.is_right c.self.inside.listener c.read.new.self _ _ _ _ (read None) _ refl refl
    _ _ _ _ (c.of-before.ensures.closed ∙ c.self.invariant.1) c.of-before.ensures.load c.of-before.ensures.held (λ _ _. refl) c.answer_of-in-Nothing.ensures (c.read.ensures.nothing _ c.in-Nothing.is).0 c.in_ok-follow-in-Nothing.ensures)
