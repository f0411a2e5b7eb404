use Rattle.std.proofs.lemmas.Result.{IfOk-weaker}
use Rattle.cli_filter.proofs.Kept.{all_programs}
use Rattle.cli_filter.proofs.plan.compile_lines.Goals as goal

pub returns-clause-programs : goal.returns-clause-programs
returns-clause-programs g c =
    IfOk-weaker c.compile_first.result _ _ (λ programs first. all_programs g.L.PlanLine.expression_of g.L.PlanLine.snap_of c.args.lines.now programs.items first) c.compile_first.ensures.programs
