use Rattle.std.proofs.Common.{All, refl, subst}
use Rattle.std.proofs.lemmas.List.Elements.{All-more}
use Rattle.std.proofs.lemmas.Option.{slice_get_read}
use Rattle.std.proofs.lemmas.Result.{err_from_is_err_and}
use Rattle.replay_types.specs.Refusals.{InterfaceIsRight, RefusesTasks, TaskIsRight}
use Rattle.replay_types.proofs.Refused.{all-taken, first-of-one}
use Rattle.replay_types.proofs.check.check_all.Goals as goal

pub returns-in_err-check_tasks-clause-first : goal.returns-in_err-check_tasks-clause-first
returns-in_err-check_tasks-clause-first g c =
    let p = err_from_is_err_and c.from_residual.result c.from_residual.ensures.1 in
    let is' = c.args.interfaces.now in
    rw (p.1, p.2)
    (first-of-one is' c.loop-i.i c.index-interfaces-i.result _ c.loop-i.invariant.0
    (slice_get_read is' _ c.loop-i.i c.index-interfaces-i.result refl c.loop-i-test.true c.index-interfaces-i.is)
    (subst (λ ts. RefusesTasks c.loop-i.i ts c.in_err-check_tasks.field-0.0) c.as_slice.ensures.value c.in_err-check_tasks.ensures.refuses) c.loop-i.invariant.1)

pub loop-i-preserved : goal.loop-i-preserved
loop-i-preserved g c = (
  c.loop-i.invariant.0,
  All-more InterfaceIsRight c.args.interfaces.now c.loop-i.i c.index-interfaces-i.result c.loop-i-test.true c.loop-i.invariant.1
      (subst InterfaceIsRight c.index-interfaces-i.is (subst (λ ts. All TaskIsRight ts) c.as_slice.ensures.value c.in_ok-check_tasks.ensures.stand)),
)

pub returns-clause-stand : goal.returns-clause-stand
returns-clause-stand g c = record {
  number = c.loop-i.invariant.0;
  tasks = all-taken InterfaceIsRight c.args.interfaces.now c.loop-i.i c.loop-i-test.false c.loop-i.invariant.1;
}
