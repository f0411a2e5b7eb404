use Rattle.std.proofs.Common.{arith, drop}
use Rattle.cli_answers.specs.Asked.{IsCaptureAt}
use Rattle.cli_answers.proofs.Opening.{completed, none-left}
use Rattle.cli_answers.proofs.opened.open_captures.Goals as goal

pub returns-clause-captures : goal.returns-clause-captures
returns-clause-captures g c tells =
    let F = g.F.FileStore in
    let old = c.args.files.now in
    completed (IsCaptureAt g.F.Input.Source.left g.F.Input.Source.failures (F.place old) (F.text old)) c.args.paths.now c.loop-path.captures.items
    (drop c.loop-path.path-index c.args.paths.now) (c.loop-path.invariant.1 tells) (none-left c.loop-path.path-index c.args.paths.now (omega (arith, c.loop-path-test.false)))
