use Rattle.tap_steps.specs.Watching.{Tells}
use Rattle.tap_steps.proofs.Counting.{zip_push}
use Rattle.tap_steps.proofs.Following.{is_followed, followed-push}
use Rattle.tap_steps.proofs.reporting.trace_all.Goals as goal

pub loop-one-preserved : goal.loop-one-preserved
loop-one-preserved c = record {
  reports = rw c.in_ok-push.ensures.items (zip_push Tells _ _ _ _ c.loop-one.invariant.reports c.in_ok-report.ensures.ok);
  answers = rw c.in_ok-push-2.ensures.items (followed-push _ _ _ _ c.loop-one.invariant.answers
      (rw c.unwrap_or.ensures (is_followed c.in-Some.one c.in_ok-report.own c.new.result c.in_ok-report.ensures.answers)));
}
