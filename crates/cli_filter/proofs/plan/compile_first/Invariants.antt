use Rattle.std.proofs.Common.{take}
use Rattle.cli_filter.specs.Plan.{AreFirstPrograms}
use Rattle.cli_filter.proofs.plan.compile_first.Given as goal

-- the lines before have programs, of which the first are kept
abbrev pub invariant-loop-n : goal.invariant-loop-n
invariant-loop-n g l = AreFirstPrograms g.L.PlanLine.expression_of g.L.PlanLine.snap_of l.most (take l.n l.lines) l.programs.items
