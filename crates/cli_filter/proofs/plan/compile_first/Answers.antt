use Rattle.std.proofs.Common.{◌<◌, ◌≤◌, ap, ◌∙◌, get_or, length, rules}
use Rattle.cli_filter.specs.Plan.{IsCompiled}
use Rattle.cli_filter.proofs.Kept.{kept_program, passed_program}
use Rattle.cli_filter.proofs.Planned.{compiled}
use Rattle.cli_filter.proofs.plan.compile_first.Goals as goal
use Rattle.cli_filter.proofs.plan.compile_first.Goals.{then-len-most+in_ok-push, else-len-most}

pub loop-n-preserved : goal.loop-n-preserved
loop-n-preserved g c =
    let one : IsCompiled g.L.PlanLine.expression_of g.L.PlanLine.snap_of (get_or c.args.lines.now c.loop-n.n c.index-lines-n.result) c.in-Ok.program =
    compiled g.L.PlanLine.expression_of g.L.PlanLine.snap_of (get_or c.args.lines.now c.loop-n.n c.index-lines-n.result) _ _ _
    (c.expression.ensures ∙ ap g.L.PlanLine.expression_of c.index-lines-n.is) (c.snap.ensures ∙ ap g.L.PlanLine.snap_of c.index-lines-n.is) c.in-Ok.ensures.program in
    elim c.if-len-most.branch [
      | then-len-most+in_ok-push w ↦
          let few : length c.loop-n.programs.items < c.args.most = search rules in
          rw w.programs-is (rw w.in_ok-push.ensures.items (kept_program g.L.PlanLine.expression_of g.L.PlanLine.snap_of c.args.most c.args.lines.now c.loop-n.n c.index-lines-n.result c.loop-n.programs.items c.in-Ok.program c.loop-n-test.true c.loop-n.invariant one few))
      | else-len-most w ↦
          let many : c.args.most ≤ length c.loop-n.programs.items = search rules in
          rw w.programs-is (passed_program g.L.PlanLine.expression_of g.L.PlanLine.snap_of c.args.most c.args.lines.now c.loop-n.n c.index-lines-n.result c.loop-n.programs.items c.in-Ok.program c.loop-n-test.true c.loop-n.invariant one many)
    ]
