use Rattle.std.proofs.lemmas.Result.{IfOk-weaker}
use Rattle.cli_run.proofs.Planned.{lines_there}
use Rattle.cli_run.proofs.plan.read_plan.Goals as goal

pub returns-clause-there : goal.returns-clause-there
returns-clause-there c = IfOk-weaker c.read_plan.result _ _ (λ plan are. lines_there c.args.interfaces c.args.listeners.now plan.lines.items plan.programs.items are) c.read_plan.ensures.planned
