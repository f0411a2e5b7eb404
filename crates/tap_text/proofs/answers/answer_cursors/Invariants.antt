use Rattle.std.proofs.Common.{map}
use Rattle.std.specs.Iterator.Adapters.{zip_first, zip_second}
use Rattle.std.specs.Slice.Iter.{iter_rest}
use Rattle.tap_text.specs.Answers.{cursors_of}
use Rattle.tap_text.proofs.Cursors.{AreMade}
use Rattle.tap_text.proofs.answers.answer_cursors.Given as goal

-- the cursors of the listeners before are made
abbrev pub invariant-loop-spec : goal.invariant-loop-spec
invariant-loop-spec l =
    goal.iterator-loop-spec.can_next l.spec-iterator × goal.iterator-loop-spec.is_finite l.spec-iterator
    × AreMade (cursors_of l.specs l.expressions (map (λ a. a.items) l.answers)) l.all.items
    (iter_rest (zip_first (zip_first l.spec-iterator))) (iter_rest (zip_second (zip_first l.spec-iterator))) (iter_rest (zip_second l.spec-iterator))
