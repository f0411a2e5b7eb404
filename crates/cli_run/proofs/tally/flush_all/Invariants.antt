use Rattle.cli_run.specs.Flushing.{AreFlushed}
use Rattle.cli_run.proofs.Flushed.{ChangedUpTo}
use Rattle.cli_run.proofs.tally.flush_all.Given as goal

-- the buffers before the OUTs of the interfaces before were emptied
abbrev pub invariant-loop-report : goal.invariant-loop-report
invariant-loop-report g l = ChangedUpTo (AreFlushed (g.W.Write.contents)) l.report-index l.fn.reports l.reports
