use Rattle.std.proofs.Common.{arith}
use Rattle.std.proofs.lemmas.Result.{err_from_is_err_and}
use Rattle.cli_filter.proofs.Kept.{all_lines, length_planned, uncompiled}
use Rattle.cli_filter.proofs.plan.read_plan.Goals as goal

pub returns-clause-planned : goal.returns-clause-planned
returns-clause-planned g c = record {
  asked = c.in_ok-lines.lines.items;
  all = all_lines (g.L.PlanLine.says c.args.terms) g.L.PlanLine.output_of g.L.PlanLine.shared _ c.args.text.now _ (omega arith) c.in_ok-lines.ensures.ok;
  first = c.truncate.ensures.items;
  compiled = rw c.as_slice.ensures.value at c.in_ok-programs.ensures.programs;
}

pub returns-clause-all : goal.returns-clause-all
returns-clause-all g c =
    length_planned g.L.PlanLine.expression_of g.L.PlanLine.snap_of c.args.most c.in_ok-lines.lines.items _ _ c.truncate.ensures.items (rw c.as_slice.ensures.value at c.in_ok-programs.ensures.programs)

pub returns-in_err-programs-clause-fault : goal.returns-in_err-programs-clause-fault
returns-in_err-programs-clause-fault g c =
    let p = err_from_is_err_and c.from_residual-in_err-programs.result c.from_residual-in_err-programs.ensures.1 in
    rw (p.1, p.2) (uncompiled (g.L.PlanLine.says c.args.terms) g.L.PlanLine.output_of g.L.PlanLine.shared g.L.PlanLine.expression_of g.L.PlanLine.snap_of c.args.text.now c.in_ok-lines.lines.items _
    (all_lines (g.L.PlanLine.says c.args.terms) g.L.PlanLine.output_of g.L.PlanLine.shared _ c.args.text.now _ (omega arith) c.in_ok-lines.ensures.ok) (rw c.as_slice.ensures.value at c.in_err-programs.ensures.fault))
