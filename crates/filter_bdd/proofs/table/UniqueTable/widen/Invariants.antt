use Rattle.std.proofs.Common.{◌≡◌}
use Rattle.filter_bdd.proofs.table.UniqueTable.widen.Given as goal

abbrev pub invariant-loop-place : goal.invariant-loop-place
invariant-loop-place l = l.self ≡ l.fn.self
