use Rattle.std.proofs.Common.{◌≡◌, take}
use Rattle.line_text.specs.declared.form.LineForm.TheVariants.{Text}
use Rattle.std.specs.Io.KnownBytes.{Appends}
use Rattle.cli_run.specs.Printed.{told_replay}
use Rattle.cli_run.proofs.report.report_ends.Given as goal

-- the lines of the interfaces before were taken
abbrev pub invariant-loop-i : goal.invariant-loop-i
invariant-loop-i g l = l.form ≡ Text → Appends (g.E.Write.contents l.fn.err) (g.E.Write.contents l.err) (told_replay (take l.i l.reports))
