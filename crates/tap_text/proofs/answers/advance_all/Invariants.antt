use Rattle.std.proofs.Common.{◌≡◌, ◌++◌, map, take, drop}
use Rattle.tap_text.specs.Answers.{advanced}
use Rattle.tap_text.proofs.answers.advance_all.Given as goal

abbrev pub invariant-loop-one : goal.invariant-loop-one
invariant-loop-one l = l.one-items ≡ map (advanced l.n) (take l.one-index l.fn.all.items) ++ drop l.one-index l.fn.all.items
