use Rattle.std.proofs.Common.{◌≡◌, ◌<◌, ℕ, length}
use Rattle.std.specs.Prelude.{None, slice_index_or}
use Rattle.filter_diagrams.specs.States.{cell, IsKept}
use Rattle.filter_diagrams.proofs.state.State.live.Given as goal

abbrev pub invariant-loop-place : goal.invariant-loop-place
invariant-loop-place l = record {
  long : length l.memory ≡ 16;
  kept : (k : ℕ) → k < 16 → IsKept (cell l.fn.self k) (slice_index_or l.memory k None);
}
