use Rattle.filtergen_code.specs.ValueLists.{GoesOnAs}
use Rattle.filtergen_code.proofs.code.Code.nearest_return.Given as goal

-- the last one that was found answers the same
abbrev pub invariant-loop-at : goal.invariant-loop-at
invariant-loop-at l = GoesOnAs l.fn.place l.found l.fn.self
