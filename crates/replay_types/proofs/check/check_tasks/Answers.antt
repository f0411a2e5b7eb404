use Rattle.std.proofs.Common.{refl, subst}
use Rattle.std.proofs.lemmas.List.Elements.{All-more}
use Rattle.std.proofs.lemmas.Option.{slice_get_read}
use Rattle.replay_types.specs.Refusals.{TaskIsRight}
use Rattle.replay_types.proofs.Refused.{all-taken}
use Rattle.replay_types.proofs.check.check_tasks.Goals as goal

pub returns-in-Err-clause-refuses : goal.returns-in-Err-clause-refuses
returns-in-Err-clause-refuses g c = (
  refl,
  c.index-tasks-k.result,
  slice_get_read c.args.tasks.now _ c.loop-k.k c.index-tasks-k.result refl c.loop-k-test.true c.index-tasks-k.is,
  c.in-Err.ensures.refuses,
  c.loop-k.invariant,
)

pub loop-k-preserved : goal.loop-k-preserved
loop-k-preserved g c =
    All-more TaskIsRight c.args.tasks.now c.loop-k.k c.index-tasks-k.result c.loop-k-test.true c.loop-k.invariant
    (subst TaskIsRight c.index-tasks-k.is c.in_default.ensures.stands)

pub returns-clause-stand : goal.returns-clause-stand
returns-clause-stand g c = all-taken TaskIsRight c.args.tasks.now c.loop-k.k c.loop-k-test.false c.loop-k.invariant
