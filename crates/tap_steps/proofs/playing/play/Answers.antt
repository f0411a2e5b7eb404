use Rattle.std.proofs.Common.{◌≡◌, ◌∷◌, ◌+◌, ℕ, List, drop, get_or, add-one, drop-cons, ap, sym, subst, ◌∙◌}
use Rattle.std.proofs.lemmas.List.{drop_all}
use Rattle.tap_steps.specs.OwnSteps.{Names}
use Rattle.tap_steps.specs.Watching.{played}
use Rattle.tap_steps.specs.declared.step.Step.{Step}
use Rattle.tap_steps.specs.declared.step.Step.TheVariants.{Arrive}
use Rattle.tap_steps.proofs.playing.play.Goals as goal

pub play_step-requires-clause-names : goal.play_step-requires-clause-names
play_step-requires-clause-names c =
    let step = get_or c.args.steps.now c.loop-step.step-index Arrive in
    subst (λ (n : ℕ). Names n step) (sym c.loop-step.invariant.number) (c.requires.names c.loop-step.step-index Arrive c.loop-step-test.true)

pub play_step-requires-clause-fit : goal.play_step-requires-clause-fit
play_step-requires-clause-fit c = c.loop-step.invariant.fit

pub loop-step-preserved : goal.loop-step-preserved
loop-step-preserved c =
    let i = c.loop-step.step-index in
    let steps = c.args.steps.now in
    let inside = c.loop-step-test.true in
    let here : drop i steps ≡ get_or steps i Arrive ∷ drop (i + 1) steps = rw (add-one, drop-cons steps i Arrive) in
    record {
      rest = sym (c.in_ok-rest.ensures.ok (drop (i + 1) steps))
          ∙ ap (λ (ss : List Step). played ss c.loop-step.rest.now c.loop-step.watched.items) (sym here)
          ∙ c.loop-step.invariant.rest;
      fit = c.in_ok-rest.ensures.fit;
      number = c.in_ok-rest.ensures.len ∙ c.loop-step.invariant.number;
    }

pub returns : goal.returns
returns c =
    ap (λ (ss : List Step). played ss c.loop-step.rest.now c.loop-step.watched.items) (sym (drop_all c.loop-step.step-index c.args.steps.now c.loop-step-test.false))
    ∙ c.loop-step.invariant.rest
