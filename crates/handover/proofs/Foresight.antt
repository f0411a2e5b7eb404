-- What a feeder has seen when it has ended doesn't determine what the drain does next.
use Rattle.std.proofs.Common.{◌≡◌, ℕ, Bool, true, false, ◌||◌, List, [], ◌∷◌, ◌++◌, refl, sym, ap, ◌∙◌, subst, append-nil, append_assoc, arith}
use Rattle.std.specs.Prelude.{slice_index}
use mathlib.Core.List.{IsPrefix}
use Rattle.handover.specs.declared.calls.Word.TheVariants.{Turn, Closed, Ended}
use Rattle.handover.specs.declared.calls.WordStep.{WordStep}
use Rattle.handover.specs.declared.calls.WordStep.TheVariants.{Load, Store, Give}
use Rattle.handover.specs.declared.calls.EndStep.{EndStep}
use Rattle.handover.specs.declared.calls.EndStep.TheVariants.{OfFeeder, OfDrain}
use Rattle.handover.specs.Fresh.{NoSightSuitsBoth}
use Rattle.handover.specs.Orders.{Finds, behind, step_of, words_from, IsFreshFrom, zeros, IsFresh, is_store_to, store_to, of_feeder, of_drain}
use Rattle.handover.proofs.Orders.{feeder_parts, drain_parts, added}

neither : (p q : Bool) → (p || q) ≡ false → (p ≡ false) × (q ≡ false)
neither true q none = absurd (cc (none))
neither false q none = (refl, none)

quiet_parts : (xs ys : List WordStep) → store_to Ended (xs ++ ys) ≡ false → (store_to Ended xs ≡ false) × (store_to Ended ys ≡ false)
quiet_parts [] ys quiet = (refl, quiet)
quiet_parts (x ∷ xs) ys quiet =
    let two = neither (is_store_to Ended x) (store_to Ended (xs ++ ys)) quiet in
    let rest = quiet_parts xs ys two.1 in (ap (λ (b : Bool). b || store_to Ended xs) two.0 ∙ rest.0, rest.1)

-- a beginning of two lists that part after `taken` begins that
common : (p taken s t later : List WordStep) → p ++ s ≡ taken ++ Store Closed 1 ∷ [] → p ++ t ≡ taken ++ Load Ended 0 ∷ later → IsPrefix p taken
common [] taken s t later one two = (taken, refl)
common (x ∷ p) [] s t later one two = absurd (cc (one, two))
common (x ∷ p) (y ∷ taken) s t later one two =
    let rest = common p taken s t later (cc (one)) (cc (two)) in
    let same : x ≡ y = cc (one) in (rest.0, ap (λ (z : WordStep). z ∷ (p ++ rest.0)) same ∙ ap (λ (l : List WordStep). y ∷ l) rest.1)

-- these words have 1 in `ended`
abbrev EndIsSet : List ℕ → Type 0
EndIsSet ws = (a : ℕ) × (b : ℕ) × (ws ≡ a ∷ b ∷ 1 ∷ [])

stays : (a b : ℕ) (ms : List EndStep) → of_feeder ms ≡ [] → store_to Ended (of_drain ms) ≡ false → EndIsSet (words_from (a ∷ b ∷ 1 ∷ []) ms)
stays a b [] none quiet = (a, b, refl)
stays a b (OfFeeder e ∷ ms) none quiet = absurd (cc (none))
stays a b (OfDrain (Load w n) ∷ ms) none quiet = stays a b ms none quiet
stays a b (OfDrain (Store Turn n) ∷ ms) none quiet = stays n b ms none quiet
stays a b (OfDrain (Store Closed n) ∷ ms) none quiet = stays a n ms none quiet
stays a b (OfDrain (Store Ended n) ∷ ms) none quiet = absurd (cc (quiet))
stays a b (OfDrain (Give given) ∷ ms) none quiet = stays 1 b ms none quiet

-- after the feeder's store to `ended`, where the drain makes none
ends : (a b c : ℕ) (ms : List EndStep) (fs : List WordStep) → of_feeder ms ≡ fs ++ Store Ended 1 ∷ [] → store_to Ended (of_drain ms) ≡ false
    → EndIsSet (words_from (a ∷ b ∷ c ∷ []) ms)
ends a b c [] [] own quiet = absurd (cc (own))
ends a b c [] (f ∷ fs) own quiet = absurd (cc (own))
ends a b c (OfDrain (Load w n) ∷ ms) fs own quiet = ends a b c ms fs own quiet
ends a b c (OfDrain (Store Turn n) ∷ ms) fs own quiet = ends n b c ms fs own quiet
ends a b c (OfDrain (Store Closed n) ∷ ms) fs own quiet = ends a n c ms fs own quiet
ends a b c (OfDrain (Store Ended n) ∷ ms) fs own quiet = absurd (cc (quiet))
ends a b c (OfDrain (Give given) ∷ ms) fs own quiet = ends 1 b c ms fs own quiet
ends a b c (OfFeeder e ∷ ms) [] own quiet =
    let is : e ≡ Store Ended 1 = cc (own) in
    subst (λ (x : WordStep). EndIsSet (words_from (behind (a ∷ b ∷ c ∷ []) x) ms)) (sym is) (stays a b ms (cc (own)) quiet)
ends a b c (OfFeeder (Load w n) ∷ ms) (f ∷ fs) own quiet = ends a b c ms fs (cc (own)) quiet
ends a b c (OfFeeder (Store Turn n) ∷ ms) (f ∷ fs) own quiet = ends n b c ms fs (cc (own)) quiet
ends a b c (OfFeeder (Store Closed n) ∷ ms) (f ∷ fs) own quiet = ends a n c ms fs (cc (own)) quiet
ends a b c (OfFeeder (Store Ended n) ∷ ms) (f ∷ fs) own quiet = ends a b n ms fs (cc (own)) quiet
ends a b c (OfFeeder (Give given) ∷ ms) (f ∷ fs) own quiet = ends 1 b c ms fs (cc (own)) quiet

-- the drain's own store to `ended` is no step of these
not_stored : (n : ℕ) (x : WordStep) (r : List WordStep) → Store Ended n ≡ x → store_to Ended (x ∷ r) ≡ false → ⊥
not_stored n x r is quiet =
    let set : is_store_to Ended x ≡ true = ap (is_store_to Ended) (sym is) in
    let none : is_store_to Ended x ≡ false = (neither (is_store_to Ended x) (store_to Ended r) quiet).0 in absurd (cc (set, none))

-- while `ended` is 1, no step of the drain finds 0 there
never : (a b : ℕ) (ms : List EndStep) (r later : List WordStep) → of_feeder ms ≡ [] → of_drain ms ≡ r ++ Load Ended 0 ∷ later → store_to Ended r ≡ false
    → IsFreshFrom (a ∷ b ∷ 1 ∷ []) ms → ⊥
never a b [] [] later none is quiet fresh = absurd (cc (is))
never a b [] (x ∷ r) later none is quiet fresh = absurd (cc (is))
never a b (OfFeeder e ∷ ms) r later none is quiet fresh = absurd (cc (none))
never a b (OfDrain e ∷ ms) [] later none is quiet fresh =
    let load : e ≡ Load Ended 0 = cc (is) in
    let found : slice_index (a ∷ b ∷ 1 ∷ []) 2 ≡ 0 = subst (Finds (a ∷ b ∷ 1 ∷ [])) load fresh.0 in absurd (omega (arith, found))
never a b (OfDrain (Load w n) ∷ ms) (x ∷ r) later none is quiet fresh =
    never a b ms r later none (cc (is)) (neither (is_store_to Ended x) (store_to Ended r) quiet).1 fresh.1
never a b (OfDrain (Store Turn n) ∷ ms) (x ∷ r) later none is quiet fresh =
    never n b ms r later none (cc (is)) (neither (is_store_to Ended x) (store_to Ended r) quiet).1 fresh.1
never a b (OfDrain (Store Closed n) ∷ ms) (x ∷ r) later none is quiet fresh =
    never a n ms r later none (cc (is)) (neither (is_store_to Ended x) (store_to Ended r) quiet).1 fresh.1
never a b (OfDrain (Store Ended n) ∷ ms) (x ∷ r) later none is quiet fresh = not_stored n x r (cc (is)) quiet
never a b (OfDrain (Give given) ∷ ms) (x ∷ r) later none is quiet fresh =
    never 1 b ms r later none (cc (is)) (neither (is_store_to Ended x) (store_to Ended r) quiet).1 fresh.1

fresh_behind : (ws : List ℕ) (xs ys : List EndStep) → IsFreshFrom ws (xs ++ ys) → IsFreshFrom (words_from ws xs) ys
fresh_behind ws [] ys fresh = fresh
fresh_behind ws (x ∷ xs) ys fresh = fresh_behind (behind ws (step_of x)) xs ys fresh.1

pub no_sight_suits_both : NoSightSuitsBoth
no_sight_suits_both seen fed taken later own quiet closes reads =
    let one = closes.1 in
    let two = reads.1 in
    let p = one.feeder_saw in
    let q = two.feeder_saw in
    let first : of_drain seen ++ of_drain p.0 ≡ taken ++ Store Closed 1 ∷ [] = sym (drain_parts seen p.0) ∙ (ap of_drain p.1 ∙ one.drain) in
    let second : of_drain seen ++ of_drain q.0 ≡ taken ++ Load Ended 0 ∷ later = sym (drain_parts seen q.0) ∙ (ap of_drain q.1 ∙ two.drain) in
    let r = common (of_drain seen) taken (of_drain p.0) (of_drain q.0) later first second in
    let none : of_feeder q.0 ≡ [] = added (of_feeder seen) (of_feeder q.0) []
    (sym (feeder_parts seen q.0) ∙ (ap of_feeder q.1 ∙ (two.feeder ∙ (sym own ∙ sym (append-nil (of_feeder seen)))))) in
    let rest : of_drain q.0 ≡ r.0 ++ Load Ended 0 ∷ later = added (of_drain seen) (of_drain q.0) (r.0 ++ Load Ended 0 ∷ later)
    (second ∙ (ap (λ (l : List WordStep). l ++ Load Ended 0 ∷ later) (sym r.1) ∙ append_assoc (of_drain seen) r.0 (Load Ended 0 ∷ later))) in
    let parts = quiet_parts (of_drain seen) r.0 (ap (store_to Ended) r.1 ∙ quiet) in
    let set = ends 0 0 0 seen fed own parts.0 in
    let fresh : IsFreshFrom (words_from zeros seen) q.0 = fresh_behind zeros seen q.0 (subst IsFresh (sym q.1) two.fresh) in
    never set.0 set.1 q.0 r.0 later none rest parts.1 (subst (λ (ws : List ℕ). IsFreshFrom ws q.0) set.2 fresh)
