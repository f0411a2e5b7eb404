use Rattle.std.proofs.Common.{◌++◌, ap, arith, length, refl}
use Rattle.cli_split.proofs.Lists.{all-over, as-many, goes-over}
use Rattle.cli_split.proofs.split.leave_captures.Goals as goal

pub loop-source-init : goal.loop-source-init
loop-source-init g c =
    let all = c.into_iter-source-iterator.ensures.into_iter_gives.0 in
    (tt, tt, ap (λ xs. c.args.sources.items ++ xs) all, omega (arith, c.requires, ap length all))

pub push_reserved-requires : goal.push_reserved-requires
push_reserved-requires g c = omega (arith, c.loop-source.sources.ok, c.loop-source.invariant.3, ap length c.in-Some.ensures.steps.0)

pub loop-source-preserved : goal.loop-source-preserved
loop-source-preserved g c =
    let few = as-many _ _ c.in-Some.source _ _ _ _ refl c.in-Some.ensures.steps.0 c.push_reserved.ensures.items in (
      tt,
      tt,
      goes-over _ _ c.in-Some.source _ _ _ c.loop-source.invariant.2 c.in-Some.ensures.steps.0 c.push_reserved.ensures.items,
      omega (arith, few, c.loop-source.invariant.3, c.push_reserved.ensures.capacity),
    )

pub returns : goal.returns
returns g c = all-over _ _ _ c.loop-source.invariant.2 (omega (arith, c.in-None.ensures.steps.0, c.loop-source.source-iterator.rest.ok))
