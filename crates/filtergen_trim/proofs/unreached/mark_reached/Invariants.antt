use Rattle.std.proofs.Common.{◌≡◌, length}
use Rattle.filtergen_trim.specs.Trimming.{MarksBefore}
use Rattle.filtergen_trim.proofs.unreached.mark_reached.Given as goal

abbrev pub invariant-loop-place : goal.invariant-loop-place
invariant-loop-place l = record { size : length l.marks ≡ length l.fn.marks; marks : MarksBefore l.insns l.place l.marks }
