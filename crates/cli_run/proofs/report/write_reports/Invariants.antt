use Rattle.std.proofs.Common.{take}
use Rattle.std.specs.Io.KnownBytes.{Appends}
use Rattle.cli_run.specs.Printed.{printed_replay}
use Rattle.cli_run.proofs.report.write_reports.Given as goal

-- the lines of the interfaces before were taken
abbrev pub invariant-loop-i : goal.invariant-loop-i
invariant-loop-i g l = Appends (g.O.Write.contents l.fn.out) (g.O.Write.contents l.out) (printed_replay l.form (take l.i l.reports))
