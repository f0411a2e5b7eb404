use Rattle.std.proofs.Common.{take}
use Rattle.std.specs.Io.KnownBytes.{Appends}
use Rattle.tap_text.specs.Printed.{reports_in}
use Rattle.tap_text.proofs.report.write_reports.Given as goal

abbrev pub invariant-loop-l : goal.invariant-loop-l
invariant-loop-l g l = Appends (g.O.Write.contents l.fn.out) (g.O.Write.contents l.out) (reports_in l.form (take l.l l.reports))
