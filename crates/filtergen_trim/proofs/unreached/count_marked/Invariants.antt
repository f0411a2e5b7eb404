use Rattle.std.proofs.Common.{◌≡◌}
use Rattle.filtergen_trim.specs.Trimming.{count_marked}
use Rattle.filtergen_trim.proofs.unreached.count_marked.Given as goal

abbrev pub invariant-loop-mark : goal.invariant-loop-mark
invariant-loop-mark l = l.count ≡ count_marked l.mark-index l.fn.after
