use Rattle.std.proofs.Common.{refl, arith}
use Rattle.cli_run.specs.Bare.{IsBare}
use Rattle.cli_run.proofs.Laid.{none_made, one_made, all_made}
use Rattle.cli_run.proofs.layout.bare_interfaces.Goals as goal

pub loop-captures-init : goal.loop-captures-init
loop-captures-init g c =
    (tt, tt, none_made IsBare c.args.captures.items c.in_ok-interfaces.interfaces.items _ c.in_ok-interfaces.ensures.items c.into_iter-captures-iterator.ensures.into_iter_gives.0)

pub loop-captures-preserved : goal.loop-captures-preserved
loop-captures-preserved g c =
    (tt, tt, rw c.in_ok-push.ensures.items (one_made IsBare _ _ _ _ c.in-Some.captures _ c.in-Some.ensures.steps.0 c.loop-captures.invariant.2 (refl, c.new-tasks.ensures.items)))

pub returns : goal.returns
returns g c =
    let none = c.in-None.ensures.steps.0 in
    let len = c.loop-captures.captures-iterator.rest.ok.0 in
    all_made IsBare c.args.captures.items c.loop-captures.interfaces.items _ (omega (arith, none, len)) c.loop-captures.invariant.2
