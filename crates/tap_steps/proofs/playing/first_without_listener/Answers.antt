use Rattle.std.proofs.Common.{sym, subst, All}
use Rattle.std.proofs.lemmas.List.{take_more, take_all}
use Rattle.std.proofs.lemmas.List.Elements.{All-push}
use Rattle.tap_steps.specs.declared.step.Step.TheVariants.{Arrive}
use Rattle.tap_steps.specs.OwnSteps.{Names}
use Rattle.tap_steps.proofs.playing.first_without_listener.Goals as goal

pub loop-place-preserved : goal.loop-place-preserved
loop-place-preserved c =
    subst (All (Names c.args.listeners)) (sym (take_more c.args.steps.now c.loop-place.place Arrive c.loop-place-test.true))
    (All-push (Names c.args.listeners) _ _ c.loop-place.invariant (c.names.ensures.0 c.if-not-names.false))

pub returns : goal.returns
returns c = subst (All (Names c.args.listeners)) (take_all c.loop-place.place c.args.steps.now c.loop-place-test.false) c.loop-place.invariant
