use Rattle.std.proofs.Common.{take}
use Rattle.std.specs.Io.KnownBytes.{Appends}
use Rattle.line_text.specs.declared.form.LineForm.TheVariants.{Text}
use Rattle.cli_parts.specs.Ranges.{stretch_lines}
use Rattle.cli_parts.proofs.line.print_stretches.Given as goal

abbrev pub invariant-loop-stretch : goal.invariant-loop-stretch
invariant-loop-stretch g l = Appends (g.O.Write.contents l.fn.out) (g.O.Write.contents l.out) (stretch_lines Text (take l.stretch-index l.again))
