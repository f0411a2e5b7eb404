use Rattle.cli_run.specs.Flushing.{IsFlushed}
use Rattle.cli_run.proofs.Flushed.{ChangedUpTo}
use Rattle.cli_run.proofs.tally.flush_interface.Given as goal

-- the buffers before the OUTs of the listeners before were emptied
abbrev pub invariant-loop-listener : goal.invariant-loop-listener
invariant-loop-listener g l = ChangedUpTo (IsFlushed (g.W.Write.contents)) l.listener-index l.fn.report.listeners.items l.listener-items
