use Rattle.std.proofs.Common.{◌<◌, length}
use Rattle.filter_same.proofs.witness.way_down.Given as goal

abbrev pub invariant-loop-bit : goal.invariant-loop-bit
invariant-loop-bit l = l.place < length l.builder.symbols.words.diagrams

abbrev pub decreases-loop-bit : goal.decreases-loop-bit
decreases-loop-bit l = l.place
