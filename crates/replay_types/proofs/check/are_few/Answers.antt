use Rattle.std.proofs.Common.{refl, rules, subst}
use Rattle.std.proofs.lemmas.List.Elements.{All-more}
use Rattle.replay_types.specs.Refusals.{IsInBounds}
use Rattle.replay_types.proofs.Refused.{all-taken}
use Rattle.replay_types.proofs.check.are_few.Goals as goal

pub loop-interface-preserved : goal.loop-interface-preserved
loop-interface-preserved g c = (
  c.loop-interface.invariant.0,
  All-more IsInBounds c.args.interfaces.now c.loop-interface.interface-index c.interface-item.result c.loop-interface-test.true c.loop-interface.invariant.1
      (subst IsInBounds c.interface-item.is (search rules, search rules)),
)

pub returns : goal.returns
returns g c = (
  (λ yes. (
    c.loop-interface.invariant.0,
    all-taken IsInBounds c.args.interfaces.now c.loop-interface.interface-index c.loop-interface-test.false c.loop-interface.invariant.1,
  )),
  (λ few. refl),
)
