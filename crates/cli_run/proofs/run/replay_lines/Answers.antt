use Rattle.std.proofs.Common.{◌≡◌, length, rules}
use Rattle.cli_run.proofs.Ran.{length_made}
use Rattle.cli_run.proofs.run.replay_lines.Goals as goal

pub replay_plan-requires-clause-sinks : goal.replay_plan-requires-clause-sinks
replay_plan-requires-clause-sinks g c =
    let made = rw c.as_slice.ensures.value at c.in_ok-made.ensures in
    let many : length c.in_ok-made.made.items ≡ length c.args.plan.lines.items = length_made _ _ _ _ made.0 made.1 in
    search rules
