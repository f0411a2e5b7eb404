use Rattle.std.proofs.Common.{◌≢◌, ◌+◌, ◌<◌, ◌≤◌, List, [], ◌∷◌, ◌++◌, length, take, rules, sym, ap, subst, ◌∙◌, arith, length-append}
use Rattle.line_text.specs.Files.{IsFirstBad}
use Rattle.tap_steps.specs.declared.filters.Spec.{Spec}
use Rattle.tap_text.specs.Listeners.{IsListenerLine}
use Rattle.line_text.proofs.Reading.{IsRead-more, IsRead-bad}
use Rattle.tap_text.proofs.Keeping.{take-next, take-none}
use Rattle.tap_text.proofs.listeners.read_listeners.Goals as goal

pub returns-in_default-clause-fault : goal.returns-in_default-clause-fault
returns-in_default-clause-fault c =
    let (all, read, kept, number, room) = c.loop-rest.invariant in
    let rest : c.loop-rest.rest.now ≢ [] = search rules in
    subst (IsFirstBad IsListenerLine c.args.text.now) (ap (λ n. n + 1) (sym number))
    (IsRead-bad IsListenerLine c.args.text.now _ _ all _ (c.first_line.ensures.first rest) read (rw c.in_default.is at c.in_ok-spec.ensures.none))

pub loop-rest-preserved-in_ok-push : goal.loop-rest-preserved-in_ok-push
loop-rest-preserved-in_ok-push c =
    let (all, read, kept, number, room) = c.loop-rest.invariant in
    let rest : c.loop-rest.rest.now ≢ [] = search rules in
    let few : length (take 65 all) < 65 = subst (λ (xs : List Spec). length xs < 65) kept (omega (arith, c.if-len-lt-MAX_KEPT.true, c.len.ensures, c.loop-rest.specs.ok)) in (
      all ++ c.in-Some.spec ∷ [],
      IsRead-more IsListenerLine _ _ _ all _ c.in-Some.spec (c.first_line.ensures.first rest) read (rw c.in-Some.is at c.in_ok-spec.ensures.some),
      c.in_ok-push.ensures.items ∙ ap (λ (xs : List Spec). xs ++ c.in-Some.spec ∷ []) kept ∙ sym (take-next 65 all c.in-Some.spec few),
      omega (arith, number, length-append all (c.in-Some.spec ∷ [])),
      omega (arith, room, c.first_line.ensures.shorter rest),
    )

pub loop-rest-preserved : goal.loop-rest-preserved
loop-rest-preserved c =
    let (all, read, kept, number, room) = c.loop-rest.invariant in
    let rest : c.loop-rest.rest.now ≢ [] = search rules in
    let many : 65 ≤ length (take 65 all) = subst (λ (xs : List Spec). 65 ≤ length xs) kept (omega (arith, c.if-len-lt-MAX_KEPT.false, c.len.ensures, c.loop-rest.specs.ok)) in (
      all ++ c.in-Some.spec ∷ [],
      IsRead-more IsListenerLine _ _ _ all _ c.in-Some.spec (c.first_line.ensures.first rest) read (rw c.in-Some.is at c.in_ok-spec.ensures.some),
      kept ∙ sym (take-none 65 all c.in-Some.spec many),
      omega (arith, number, length-append all (c.in-Some.spec ∷ [])),
      omega (arith, room, c.first_line.ensures.shorter rest),
    )
