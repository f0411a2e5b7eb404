use Rattle.std.proofs.Common.{◌≡◌, ◌≤◌, ◌++◌, drop, length}
use Rattle.filtergen_trim.specs.Trimming.{trimmed}
use Rattle.filtergen_trim.proofs.unreached.keep_marked.Given as goal

abbrev pub invariant-loop-place : goal.invariant-loop-place
invariant-loop-place l = record {
  within : length l.kept.items ≤ l.place;
  whole : l.kept.items ++ trimmed (drop l.place l.marks) (drop l.place l.insns) ≡ trimmed l.marks l.insns;
}
