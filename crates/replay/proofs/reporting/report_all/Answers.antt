use Rattle.std.proofs.Common.{◌≡◌, ◌∷◌, length, ap, arith, rules, subst}
use Rattle.std.specs.List.{AllZip}
use Rattle.replay.specs.RunsEnded.{HasItsPairs, IsReportOf}
use Rattle.replay.proofs.Lists.{completed, completes-next, empty, grown, zip-taken}
use Rattle.replay.proofs.reporting.report_all.Goals as goal

pub report_one-requires : goal.report_one-requires
report_one-requires g c =
    (zip-taken HasItsPairs _ c.in-Some-next.its_links _ _ c.in-Some.one _ c.loop-one.invariant.2 c.in-Some-next.ensures.items c.in-Some.ensures.steps.0).0

pub unreachable-requires : goal.unreachable-requires
unreachable-requires g c =
    let none : length c.loop-one.links.rest.items ≡ 0 = search rules in
    subst (λ ls. AllZip HasItsPairs ls (c.in-Some.one ∷ c.next.new.self.rest.items)) (empty _ none)
    (subst (λ rs. AllZip HasItsPairs c.loop-one.links.rest.items rs) c.in-Some.ensures.steps.0 c.loop-one.invariant.2)

pub push_reserved-requires : goal.push_reserved-requires
push_reserved-requires g c =
    let less = ap length c.in-Some.ensures.steps.0 in
    let sum = c.loop-one.invariant.4 in
    let room = c.loop-one.invariant.5 in omega (arith, less, sum, room)

pub loop-one-preserved : goal.loop-one-preserved
loop-one-preserved g c = (
  tt,
  tt,
  (zip-taken HasItsPairs _ c.in-Some-next.its_links _ _ c.in-Some.one _ c.loop-one.invariant.2 c.in-Some-next.ensures.items c.in-Some.ensures.steps.0).1,
  completes-next (IsReportOf g.S.Source.left g.S.Source.failures g.W.Sink.taken g.W.Sink.failures) _ _ _ c.in-Some.one _ _ _ c.loop-one.invariant.3
      c.in-Some.ensures.steps.0 c.push_reserved.ensures.items c.in_ok-report_one.ensures,
  (let more = grown _ _ _ c.push_reserved.ensures.items in
      let less = ap length c.in-Some.ensures.steps.0 in
      let sum = c.loop-one.invariant.4 in omega (arith, more, less, sum)),
  (let capacity = c.push_reserved.ensures.capacity in let room = c.loop-one.invariant.5 in omega (arith, capacity, room)),
)

pub returns : goal.returns
returns g c = completed (IsReportOf g.S.Source.left g.S.Source.failures g.W.Sink.taken g.W.Sink.failures) _ _ _ c.loop-one.invariant.3 (search rules)
