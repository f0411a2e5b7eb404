use Rattle.std.proofs.Common.{ap, arith, length}
use Rattle.cli_split.specs.Standing.{IsEndOf}
use Rattle.cli_split.proofs.Lists.{as-many, completed, completes-next, completes-none}
use Rattle.cli_split.proofs.part.close_all.Goals as goal

pub loop-outlet-init : goal.loop-outlet-init
loop-outlet-init g c = (
  tt,
  tt,
  completes-none (IsEndOf g.W.Sink.taken g.W.Sink.name g.W.Sink.failures) _ _ _ c.requires.room.0 c.into_iter-outlet-iterator.ensures.into_iter_gives.0,
  omega (arith, c.requires.room.0, ap length c.into_iter-outlet-iterator.ensures.into_iter_gives.0),
  c.requires.room.1,
)

pub push_reserved-requires : goal.push_reserved-requires
push_reserved-requires g c =
    omega (arith, c.loop-outlet.ends.ok, c.loop-outlet.invariant.3, c.loop-outlet.invariant.4, ap length c.in-Some.ensures.steps.0)

pub loop-outlet-preserved : goal.loop-outlet-preserved
loop-outlet-preserved g c = (
  tt,
  tt,
  completes-next (IsEndOf g.W.Sink.taken g.W.Sink.name g.W.Sink.failures) _ _ _ c.in-Some.outlet _ _ _ c.loop-outlet.invariant.2 c.in-Some.ensures.steps.0
      c.push_reserved.ensures.items c.close.ensures,
  as-many _ _ c.in-Some.outlet _ _ _ _ c.loop-outlet.invariant.3 c.in-Some.ensures.steps.0 c.push_reserved.ensures.items,
  omega (arith, c.loop-outlet.invariant.4, c.push_reserved.ensures.capacity),
)

pub returns : goal.returns
returns g c = completed (IsEndOf g.W.Sink.taken g.W.Sink.name g.W.Sink.failures) _ _ _ c.loop-outlet.invariant.2 (omega (arith, c.in-None.ensures.steps.0, c.loop-outlet.outlet-iterator.rest.ok))
