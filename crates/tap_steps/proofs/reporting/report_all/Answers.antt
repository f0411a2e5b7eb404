use Rattle.tap_steps.specs.Watching.{Tells}
use Rattle.tap_steps.proofs.Counting.{zip_push}
use Rattle.tap_steps.proofs.reporting.report_all.Goals as goal

pub loop-one-preserved-in_ok-push : goal.loop-one-preserved-in_ok-push
loop-one-preserved-in_ok-push c = rw c.in_ok-push.ensures.items (zip_push Tells _ _ _ _ c.loop-one.invariant c.in_ok-report.ensures.ok)

pub loop-one-preserved : goal.loop-one-preserved
loop-one-preserved c = rw c.in_ok-push.ensures.items (zip_push Tells _ _ _ _ c.loop-one.invariant c.in_ok-report.ensures.ok)
