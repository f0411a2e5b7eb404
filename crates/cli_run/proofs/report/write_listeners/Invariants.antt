use Rattle.std.proofs.Common.{take}
use Rattle.std.specs.Io.KnownBytes.{Appends}
use Rattle.line_text.specs.Texts.{numbered}
use Rattle.cli_run.specs.Printed.{listener_line}
use Rattle.cli_run.proofs.report.write_listeners.Given as goal

-- the lines before were taken
abbrev pub invariant-loop-l : goal.invariant-loop-l
invariant-loop-l g l = Appends (g.O.Write.contents l.fn.out) (g.O.Write.contents l.out) (numbered (listener_line l.form l.i) 0 (take l.l l.reports))
