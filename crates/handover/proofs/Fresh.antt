-- What a step may tell where the rule holds before it and after it.
use Rattle.std.proofs.Common.{◌≡◌, ℕ, List, [], ◌∷◌, sym, ap, ◌∙◌, subst, arith}
use Rattle.std.specs.Prelude.{slice_index, slice_set}
use mathlib.Core.Option.{some}
use lib.ListN.{get_elem?}
use Rattle.handover.specs.declared.calls.WordStep.TheVariants.{Load, Store}
use Rattle.handover.specs.declared.calls.Word.TheVariants.{Turn, Closed, Ended}
use Rattle.handover.specs.declared.view.Profile.{Profile}
use Rattle.handover.specs.declared.view.Sight.{Sight}
use Rattle.handover.specs.Fresh.{Pair, HasEnds, FeederStepsAreFresh, DrainStepsAreFresh, SilentStepsChangeNothing, NoEndIsOverlooked, NoHoldIsOverlooked, NoCloseIsOverlooked, NoHoldIsMadeUp, NoEndIsMadeUp, NoCloseIsMadeUp}
use Rattle.handover.specs.Rule.{IsOrder}
use Rattle.handover.proofs.Orders.{feeder_step_is_fresh, drain_step_is_fresh, silent_step_is_still}
use Rattle.handover.proofs.Steps.{feeder_at}

-- the seats that the rule speaks of are the two ends'
order_of : (p : Profile) (s : Pair) (f d : Sight) (h : HasEnds p s f d) → IsOrder h.rule.order s.words f d
order_of p s f d h =
    let k = h.rule in
    let at : get_elem? s.views 0 ≡ some f = ap (λ (vs : List Sight). get_elem? vs 0) h.seats in
    let a = feeder_at k.feeder k.drain f s.views 0 k.seats at h.role in
    let other : k.drain ≡ d = let both : k.feeder ∷ k.drain ∷ [] ≡ f ∷ d ∷ [] = sym a.0 ∙ h.seats in cc (both) in
    subst (λ (v : Sight). IsOrder k.order s.words f v) other (subst (λ (v : Sight). IsOrder k.order s.words v k.drain) a.2 k.steps)

pub feeder_tells : FeederStepsAreFresh
feeder_tells p s t e h =
    feeder_step_is_fresh h.before.rule.order h.after.rule.order s.words t.words h.old h.drain h.new e (order_of p s h.old h.drain h.before) (order_of p t h.new h.drain h.after) h.saw h.steps

pub drain_tells : DrainStepsAreFresh
drain_tells p s t e h =
    drain_step_is_fresh h.before.rule.order h.after.rule.order s.words t.words h.feeder h.old h.new e (order_of p s h.feeder h.old h.before) (order_of p t h.feeder h.new h.after) h.saw h.steps

pub silence_changes_nothing : SilentStepsChangeNothing
silence_changes_nothing p s t f g d e h j saw also feeds takes =
    silent_step_is_still h.rule.order j.rule.order s.words t.words f d g e (order_of p s f d h) (order_of p t g e j) saw also feeds takes

-- ---- Steps that nothing can tell

pub no_end_is_overlooked : NoEndIsOverlooked
no_end_is_overlooked p s t is h = let found = (drain_tells p s t (Load Ended 0) h).0 in absurd (omega (arith, is, found))

pub no_hold_is_overlooked : NoHoldIsOverlooked
no_hold_is_overlooked p s t is h = let found = (drain_tells p s t (Load Turn 0) h).0 in absurd (omega (arith, is, found))

pub no_close_is_overlooked : NoCloseIsOverlooked
no_close_is_overlooked p s t is h = let found = (feeder_tells p s t (Load Closed 0) h).0 in absurd (omega (arith, is, found))

pub no_hold_is_made_up : NoHoldIsMadeUp
no_hold_is_made_up p s t is h = let found = (feeder_tells p s t (Load Turn 1) h).0 in absurd (omega (arith, is, found))

pub no_end_is_made_up : NoEndIsMadeUp
no_end_is_made_up p s t is same h =
    let made = (feeder_tells p s t (Store Ended 1) h).1 in
    let one : slice_index t.words 2 ≡ 1 = ap (λ (ws : List ℕ). slice_index ws 2) made ∙ ap (λ (ws : List ℕ). slice_index (slice_set ws 2 1) 2) h.before.rule.words in
    let none : slice_index t.words 2 ≡ 0 = ap (λ (ws : List ℕ). slice_index ws 2) same ∙ is in absurd (omega (arith, one, none))

pub no_close_is_made_up : NoCloseIsMadeUp
no_close_is_made_up p s t is same h =
    let made = (drain_tells p s t (Store Closed 1) h).1 in
    let one : slice_index t.words 1 ≡ 1 = ap (λ (ws : List ℕ). slice_index ws 1) made ∙ ap (λ (ws : List ℕ). slice_index (slice_set ws 1 1) 1) h.before.rule.words in
    let none : slice_index t.words 1 ≡ 0 = ap (λ (ws : List ℕ). slice_index ws 1) same ∙ is in absurd (omega (arith, one, none))
