use Rattle.std.proofs.Common.{◌+◌, ◌≤◌, length}
use Rattle.std.specs.List.{slice_split}
use Rattle.bpf_asm.specs.Assembly.{is_line_feed}
use Rattle.bpf_asm.proofs.Lines.{ReadTo}
use Rattle.bpf_asm.proofs.reading.read_lines.Given as goal

abbrev pub invariant-texts : goal.invariant-texts
invariant-texts l = record {
  read : ReadTo (slice_split is_line_feed l.text) (slice_split is_line_feed l.rest) l.lines.items l.number;
  left : l.number + length l.rest ≤ length l.text + 1;
}

abbrev pub decreases-texts : goal.decreases-texts
decreases-texts l = length l.rest
