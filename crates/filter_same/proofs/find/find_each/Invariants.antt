use Rattle.std.proofs.Common.{ℕ, ◌<◌, ◌+◌, ◌%◌, Some}
use Rattle.filter_same.specs.Filters.{filter_test}
use Rattle.filter_same.specs.Findings.{ClaimsOf}
use Rattle.filter_same.proofs.find.find_each.Given as goal

abbrev pub invariant-loop-place : goal.invariant-loop-place
invariant-loop-place l = (n : ℕ) → n < l.place → ClaimsOf (Some ((n + 5) % 16)) (filter_test l.first) (filter_test l.second) l.least
