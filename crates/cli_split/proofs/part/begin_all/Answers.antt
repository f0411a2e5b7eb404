use Rattle.std.proofs.Common.{[], ap, arith, length}
use Rattle.cli_split.specs.Standing.{HasTaken}
use Rattle.cli_split.proofs.Lists.{as-many, completed, completes-next, completes-none}
use Rattle.cli_split.proofs.part.begin_all.Goals as goal

pub loop-part-init : goal.loop-part-init
loop-part-init g c = (
  tt,
  tt,
  completes-none (HasTaken g.W.Sink.taken g.W.Sink.name g.W.Sink.failures c.args.order c.args.unit []) _ _ _ c.requires.room.0
      c.into_iter-part-iterator.ensures.into_iter_gives.0,
  omega (arith, c.requires.room.0, ap length c.into_iter-part-iterator.ensures.into_iter_gives.0),
  c.requires.room.1,
)

pub push_reserved-requires : goal.push_reserved-requires
push_reserved-requires g c =
    omega (arith, c.loop-part.outlets.ok, c.loop-part.invariant.3, c.loop-part.invariant.4, ap length c.in-Some.ensures.steps.0)

pub loop-part-preserved : goal.loop-part-preserved
loop-part-preserved g c = (
  tt,
  tt,
  completes-next (HasTaken g.W.Sink.taken g.W.Sink.name g.W.Sink.failures c.args.order c.args.unit []) _ _ _ c.in-Some.part _ _ _ c.loop-part.invariant.2 c.in-Some.ensures.steps.0
      c.push_reserved.ensures.items c.begin.ensures,
  as-many _ _ c.in-Some.part _ _ _ _ c.loop-part.invariant.3 c.in-Some.ensures.steps.0 c.push_reserved.ensures.items,
  omega (arith, c.loop-part.invariant.4, c.push_reserved.ensures.capacity),
)

pub returns : goal.returns
returns g c = completed (HasTaken g.W.Sink.taken g.W.Sink.name g.W.Sink.failures c.args.order c.args.unit []) _ _ _ c.loop-part.invariant.2
    (omega (arith, c.in-None.ensures.steps.0, c.loop-part.part-iterator.rest.ok))
