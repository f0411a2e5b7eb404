use Rattle.std.proofs.Common.{take}
use Rattle.std.specs.Io.KnownBytes.{Appends}
use Rattle.line_text.specs.Texts.{numbered}
use Rattle.cli_split.specs.Printed.{line_text}
use Rattle.cli_split.proofs.report.write_parts.Given as goal

-- the lines before were taken
abbrev pub invariant-loop-n : goal.invariant-loop-n
invariant-loop-n g l = Appends (g.O.Write.contents l.fn.out) (g.O.Write.contents l.out) (numbered (line_text l.form l.lines) 0 (take l.n l.parts))
