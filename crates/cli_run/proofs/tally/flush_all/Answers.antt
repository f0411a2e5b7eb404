use Rattle.cli_run.specs.Flushing.{AreFlushed}
use Rattle.cli_run.proofs.Flushed.{changed_more, changed_all}
use Rattle.cli_run.proofs.tally.flush_all.Goals as goal

pub loop-report-preserved : goal.loop-report-preserved
loop-report-preserved g c =
    changed_more (AreFlushed g.W.Write.contents) c.loop-report.report-index c.args.reports.now c.loop-report.reports c.report-item.result _ c.loop-report-test.true c.loop-report.invariant c.flush_interface.ensures

pub returns : goal.returns
returns g c = changed_all (AreFlushed g.W.Write.contents) c.loop-report.report-index _ _ c.loop-report-test.false c.loop-report.invariant
