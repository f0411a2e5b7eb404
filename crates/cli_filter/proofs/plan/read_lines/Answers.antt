use Rattle.std.proofs.Common.{◌≡◌, ◌≢◌, ◌<◌, ◌≤◌, ◌∙◌, [], ap, sym, false, length, rules, arith, true}
use Rattle.cli_filter.proofs.Outputs.{formless_read, fresh_alone, named_read, kept_read, passed_read, refused_both}
use Rattle.cli_filter.proofs.plan.read_lines.Goals as goal

pub returns-in_default-clause-fault : goal.returns-in_default-clause-fault
returns-in_default-clause-fault g c =
    let rest : c.loop-rest.rest.now ≢ [] = search rules in
    formless_read _ (g.L.PlanLine.says c.args.terms) g.L.PlanLine.output_of g.L.PlanLine.shared c.args.most c.args.text.now _ _ c.loop-rest.number _ _ _ (c.first_line.ensures.first rest) c.loop-rest.invariant.so_far c.in_default.ensures.none

pub returns-then-not-may_stand-clause-fault : goal.returns-then-not-may_stand-clause-fault
returns-then-not-may_stand-clause-fault g c =
    let rest : c.loop-rest.rest.now ≢ [] = search rules in
    let bars : c.may_stand.result ≡ false = search rules in
    let both = refused_both _ _ _ _ c.in_ok-is_new.ensures.added c.may_stand.ensures bars in
    named_read _ (g.L.PlanLine.says c.args.terms) g.L.PlanLine.output_of g.L.PlanLine.shared c.args.most c.args.text.now _ _ c.loop-rest.number _ _ _ (c.first_line.ensures.first rest) c.loop-rest.invariant.so_far
    c.output-path.result c.in-Some.asked c.output-path.ensures c.in-Some.ensures.one_output (ap g.L.PlanLine.shared (sym c.output-path.ensures) ∙ both.0) both.1

pub loop-rest-preserved-in_ok-push : goal.loop-rest-preserved-in_ok-push
loop-rest-preserved-in_ok-push g c =
    let rest : c.loop-rest.rest.now ≢ [] = search rules in
    let few : length c.loop-rest.lines.items < c.args.most = search rules in
    let lets : c.may_stand.result ≡ true = search rules in
    record {
      so_far = rw c.in_ok-push.ensures.items
          (kept_read _ (g.L.PlanLine.says c.args.terms) g.L.PlanLine.output_of g.L.PlanLine.shared c.args.most _ _ _ c.loop-rest.number c.loop-rest.lines.items c.loop-rest.outputs c.insert.new.self _ c.in-Some.asked c.output-path.result
          (c.first_line.ensures.first rest) c.loop-rest.invariant.so_far c.in-Some.ensures.some c.output-path.ensures
          (λ alone. fresh_alone _ _ _ _ c.in_ok-is_new.ensures.added c.may_stand.ensures lets (ap g.L.PlanLine.shared c.output-path.ensures ∙ alone)) c.in_ok-is_new.ensures.updates few);
      left = omega (arith, c.first_line.ensures.shorter rest);
    }

pub loop-rest-preserved : goal.loop-rest-preserved
loop-rest-preserved g c =
    let rest : c.loop-rest.rest.now ≢ [] = search rules in
    let many : c.args.most ≤ length c.loop-rest.lines.items = search rules in
    let lets : c.may_stand.result ≡ true = search rules in
    record {
      so_far = passed_read _ (g.L.PlanLine.says c.args.terms) g.L.PlanLine.output_of g.L.PlanLine.shared c.args.most _ _ _ c.loop-rest.number c.loop-rest.lines.items c.loop-rest.outputs c.insert.new.self _ c.in-Some.asked c.output-path.result
          (c.first_line.ensures.first rest) c.loop-rest.invariant.so_far c.in-Some.ensures.some c.output-path.ensures
          (λ alone. fresh_alone _ _ _ _ c.in_ok-is_new.ensures.added c.may_stand.ensures lets (ap g.L.PlanLine.shared c.output-path.ensures ∙ alone)) c.in_ok-is_new.ensures.updates many;
      left = omega (arith, c.first_line.ensures.shorter rest);
    }
