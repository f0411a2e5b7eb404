use Rattle.std.proofs.Common.{◌≡◌, take}
use Rattle.filtergen_code.specs.ValueLists.{in_ranges}
use Rattle.filtergen_code.proofs.value_lists.has_number.Given as goal

-- it was looked for in the spans so far
abbrev pub invariant-loop-range : goal.invariant-loop-range
invariant-loop-range l = l.found ≡ in_ranges (take l.range-index l.fn.ranges) l.fn.number
