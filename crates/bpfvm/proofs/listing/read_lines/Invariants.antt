use Rattle.std.proofs.Common.{◌+◌, ◌≤◌, length}
use Rattle.bpfvm.specs.Listing.{further_lines}
use Rattle.bpfvm.proofs.Reading.{IsRead}
use Rattle.bpfvm.proofs.listing.read_lines.Given as goal

abbrev pub invariant-loop-rest : goal.invariant-loop-rest
invariant-loop-rest l = record {
  read : IsRead (further_lines l.text) (further_lines l.rest) l.listed.insns.items l.listed.count;
  short : l.listed.count + length l.rest ≤ length l.text;
}

abbrev pub decreases-loop-rest : goal.decreases-loop-rest
decreases-loop-rest l = length l.rest
