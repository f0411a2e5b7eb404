use Rattle.std.proofs.Common.{All, length, ap, arith, rules, subst}
use Rattle.std.proofs.lemmas.List.Elements.{All-head, All-rest}
use Rattle.replay_types.specs.Refusals.{IsInBounds}
use Rattle.replay.specs.Setups.{HasLinks, IsPreparedFor}
use Rattle.replay.proofs.Lists.{completed, completes-next, grown, zip-pushed}
use Rattle.replay.proofs.setup.prepare_all.Goals as goal

pub loop-interface-preserved : goal.loop-interface-preserved
loop-interface-preserved g c = (
  tt,
  tt,
  All-rest IsInBounds c.in-Some.interface _ _ c.in-Some.ensures.steps.0 c.loop-interface.invariant.2,
  zip-pushed HasLinks _ _ _ _ c.in_ok-its_links.its_links c.in_ok-its_links.its_own c.loop-interface.invariant.3 c.push_reserved.ensures.items
      c.push_reserved-in-loop-interface.ensures.items c.in_ok-its_links.ensures.links,
  completes-next IsPreparedFor _ _ _ c.in-Some.interface _ _ _ c.loop-interface.invariant.4 c.in-Some.ensures.steps.0 c.push_reserved-in-loop-interface.ensures.items
      c.in_ok-its_links.ensures.prepared,
  (let more = grown _ _ _ c.push_reserved-in-loop-interface.ensures.items in
      let less = ap length c.in-Some.ensures.steps.0 in
      let sum = c.loop-interface.invariant.5 in omega (arith, more, less, sum)),
  (let links = grown _ _ _ c.push_reserved.ensures.items in
      let prepared = grown _ _ _ c.push_reserved-in-loop-interface.ensures.items in
      let same = c.loop-interface.invariant.6 in omega (arith, links, prepared, same)),
  (let capacity = c.push_reserved.ensures.capacity in let room = c.loop-interface.invariant.7 in omega (arith, capacity, room)),
  (let capacity = c.push_reserved-in-loop-interface.ensures.capacity in let room = c.loop-interface.invariant.8 in omega (arith, capacity, room)),
)

pub prepare-requires : goal.prepare-requires
prepare-requires g c =
    All-head IsInBounds c.in-Some.interface _ (subst (λ is'. All IsInBounds is') c.in-Some.ensures.steps.0 c.loop-interface.invariant.2)

pub returns-clause-links : goal.returns-clause-links
returns-clause-links g c = c.loop-interface.invariant.3

pub returns-clause-prepared : goal.returns-clause-prepared
returns-clause-prepared g c = completed IsPreparedFor _ _ _ c.loop-interface.invariant.4 (search rules)
