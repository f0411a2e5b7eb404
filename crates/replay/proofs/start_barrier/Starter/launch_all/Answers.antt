use Rattle.std.proofs.Common.{◌≡◌, ℕ, drop, get_or, length, sym, ap, ◌∙◌, arith, rules, subst}
use Rattle.std.specs.List.{AllZip}
use Rattle.replay.specs.Runs.{IsRunningOf}
use Rattle.replay.specs.Setups.{HasLinks}
use Rattle.replay.proofs.Lists.{completed, completes-next, grown, zip-dropped}
use Rattle.replay.proofs.start_barrier.Starter.launch_all.Goals as goal

pub launch_one-requires-clause-pairs : goal.launch_one-requires-clause-pairs
launch_one-requires-clause-pairs g c κs within =
    let here : length c.loop-one.running.items ≡ c.len-i.result = search rules in
    let z = zip-dropped HasLinks c.args.links.now _ _ c.in-Some.one _ c.loop-one.invariant.2 c.in-Some.ensures.steps.0 in
    z.1 c.index-links-i.result
    ∙ ap (λ (k : ℕ). (get_or c.args.links.now k c.index-links-i.result).items) here
    ∙ sym (c.as_slice.ensures.value ∙ ap (λ ls. ls.items) c.index-links-i.is)

pub bounds-links-i : goal.bounds-links-i
bounds-links-i g c =
    let here : length c.loop-one.running.items ≡ c.len-i.result = search rules in
    let z = zip-dropped HasLinks c.args.links.now _ _ c.in-Some.one _ c.loop-one.invariant.2 c.in-Some.ensures.steps.0 in
    let inside = z.0 in omega (arith, here, inside)

pub push_reserved-requires : goal.push_reserved-requires
push_reserved-requires g c =
    let less = ap length c.in-Some.ensures.steps.0 in
    let sum = c.loop-one.invariant.4 in
    let room = c.loop-one.invariant.5 in omega (arith, less, sum, room)

pub loop-one-preserved : goal.loop-one-preserved
loop-one-preserved g c =
    let z = zip-dropped HasLinks c.args.links.now _ _ c.in-Some.one _ c.loop-one.invariant.2 c.in-Some.ensures.steps.0 in
    let next = grown _ _ _ c.push_reserved.ensures.items in (
      tt,
      tt,
      subst (λ (k : ℕ). AllZip HasLinks (drop k c.args.links.now) c.next.new.self.rest.items) (sym next) z.2,
      completes-next IsRunningOf _ _ _ c.in-Some.one _ _ _ c.loop-one.invariant.3 c.in-Some.ensures.steps.0 c.push_reserved.ensures.items c.in_ok-launch_one.ensures,
      (let less = ap length c.in-Some.ensures.steps.0 in let sum = c.loop-one.invariant.4 in omega (arith, next, less, sum)),
      (let capacity = c.push_reserved.ensures.capacity in let room = c.loop-one.invariant.5 in omega (arith, capacity, room)),
    )

pub returns : goal.returns
returns g c = completed IsRunningOf _ _ _ c.loop-one.invariant.3 (search rules)
