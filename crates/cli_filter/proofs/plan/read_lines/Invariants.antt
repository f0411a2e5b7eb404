use Rattle.std.proofs.Common.{◌+◌, ◌≤◌, length}
use Rattle.bpfvm.specs.Listing.{further_lines}
use Rattle.cli_filter.proofs.Outputs.{IsReadSoFar}
use Rattle.cli_filter.proofs.plan.read_lines.Given as goal

-- each line that was read has left the text
abbrev pub invariant-loop-rest : goal.invariant-loop-rest
invariant-loop-rest g l = record {
  so_far : IsReadSoFar (g.L.PlanLine.says l.terms) g.L.PlanLine.output_of g.L.PlanLine.shared l.most (further_lines l.text) (further_lines l.rest) l.number l.lines.items l.outputs;
  left : l.number + length l.rest ≤ length l.text;
}

abbrev pub decreases-loop-rest : goal.decreases-loop-rest
decreases-loop-rest g l = length l.rest
