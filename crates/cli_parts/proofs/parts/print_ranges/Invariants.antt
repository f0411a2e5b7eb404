use Rattle.cli_parts.specs.Ranges.{ArePrinted}
use Rattle.cli_parts.proofs.parts.print_ranges.Given as goal

-- the ranges up to the next one were printed
abbrev pub invariant-loop-number : goal.invariant-loop-number
invariant-loop-number g l = ArePrinted (g.O.Write.contents l.fn.out) (g.O.Write.contents l.out) l.form l.first
