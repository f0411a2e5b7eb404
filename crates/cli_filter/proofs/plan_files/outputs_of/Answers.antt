use Rattle.std.proofs.Common.{rules, ◌≡◌, ℕ, List, Bor, ap, ◌∙◌}
use Rattle.cli_filter.proofs.Planned.{zip_more}
use Rattle.cli_filter.proofs.plan_files.outputs_of.Goals as goal

pub loop-line-preserved : goal.loop-line-preserved
loop-line-preserved g c = record {
  outputs = rw c.in_ok-push.ensures.items (zip_more (λ line (output : Bor (List ℕ)). output.now ≡ g.L.PlanLine.output_of line) c.args.lines.now _ c.loop-line.line-index c.line-item.result _ c.loop-line-test.true c.loop-line.invariant.outputs
      (c.output.ensures ∙ ap g.L.PlanLine.output_of c.line-item.is));
  all = search rules;
}
