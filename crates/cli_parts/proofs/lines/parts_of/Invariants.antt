use Rattle.std.proofs.Common.{length}
use Rattle.bpfvm.specs.Listing.{further_lines}
use Rattle.line_text.proofs.Reading.{IsRead}
use Rattle.cli_parts.specs.Lines.{IsPartLine}
use Rattle.cli_parts.proofs.lines.parts_of.Given as goal

abbrev pub invariant-loop-rest : goal.invariant-loop-rest
invariant-loop-rest l = IsRead IsPartLine (further_lines l.text) (further_lines l.rest) l.parts.items

abbrev pub decreases-loop-rest : goal.decreases-loop-rest
decreases-loop-rest l = length l.rest
