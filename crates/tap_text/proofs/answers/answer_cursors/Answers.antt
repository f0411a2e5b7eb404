use Rattle.std.proofs.Common.{◌≡◌, inl, inr, rules}
use Rattle.std.specs.Iterator.Adapters.{zip_first, zip_second}
use Rattle.std.specs.Slice.Iter.{iter_rest}
use Rattle.tap_text.proofs.Cursors.{none_made, one_more, made_specs, made_expressions, made_answers}
use Rattle.tap_text.proofs.answers.answer_cursors.Goals as goal

pub loop-spec-init : goal.loop-spec-init
loop-spec-init c =
    let start = c.into_iter-spec-iterator.result in
    let specs : iter_rest (zip_first (zip_first start)) ≡ c.args.specs.now = search rules in
    let expressions : iter_rest (zip_second (zip_first start)) ≡ c.args.expressions.now = search rules in
    let answers : iter_rest (zip_second start) ≡ c.args.answers.now = search rules in (
      ((tt, tt), tt),
      tt,
      none_made c.args.specs.now _ c.args.expressions.now _ c.args.answers.now _ _ specs expressions answers c.in_ok-all.ensures.items,
    )

pub loop-spec-preserved : goal.loop-spec-preserved
loop-spec-preserved c =
    let steps = c.in-Some.ensures.steps in (
      ((tt, tt), tt),
      tt,
      one_more _ c.loop-spec.all.items _ _ _ _ _ _ _ c.in-Some.spec.now c.in-Some.expr.now c.in-Some.own.now _
          steps.0.0 steps.0.1 steps.1 (rw c.as_slice.ensures.value at c.new.ensures) c.in_ok-push.ensures.items c.loop-spec.invariant.2,
    )

pub returns : goal.returns
returns c = elim c.in-None.ensures.steps [
  | inl w ↦ elim w.1 [
    | inl u ↦ made_specs _ _ _ _ _ u.1.0 c.loop-spec.invariant.2
    | inr u ↦ made_expressions _ _ _ _ _ u.1.0 c.loop-spec.invariant.2
  ]
  | inr w ↦ made_answers _ _ _ _ _ w.1.0 c.loop-spec.invariant.2
]
