-- What is kept, as a list of accepted arrivals.
use Rattle.std.proofs.Common.{◌≡◌, ℕ, ◌+◌, Bool, true, false, cond, List, [], ◌∷◌, ◌++◌, Some, None, length, refl, arith, inl, inr}
use Rattle.std.specs.Prelude.{Contains}
use Rattle.std.proofs.lemmas.List.Elements.{Contains-append_left, Contains-append_right, Contains-append_cases}
use Rattle.listener.specs.declared.message.Message.{Message}
use Rattle.listener.specs.PlainList.{Terms, Request, Arrive, Flush, Read, Close}
use Rattle.listener.specs.LookingBack.{before_close, accepted, all_accepted, is_accepted, is_drop, kept_from, drops_from, count, kept, dropped, matched}
use Rattle.listener.specs.Laws.{MatchedAreKeptOrDropped, IsThinned, KeptIsThinned, KeptAreAccepted}

-- ---- Each that matched is kept or dropped

count_arrival : (d : Bool) (m : Message) (ks : List Message) (drops : ℕ) →
    1 + (length ks + drops) ≡ length (cond d [] (m ∷ []) ++ ks) + (cond {A = ℕ} d 1 0 + drops)
count_arrival true m ks drops = omega arith
count_arrival false m ks drops = omega arith

matched_from : (t : Terms) (before steps : List Request) → count is_accepted steps ≡ length (kept_from t before steps) + drops_from t before steps
matched_from t before [] = omega arith
matched_from t before (Arrive (Some m) ∷ steps) =
    let more = matched_from t (Arrive (Some m) ∷ before) steps in
    let one = count_arrival (is_drop t before (Arrive (Some m))) m (kept_from t (Arrive (Some m) ∷ before) steps) (drops_from t (Arrive (Some m) ∷ before) steps) in
    omega (arith, more, one)
matched_from t before (Arrive None ∷ steps) = omega (arith, matched_from t (Arrive None ∷ before) steps)
matched_from t before (Flush ∷ steps) = omega (arith, matched_from t (Flush ∷ before) steps)
matched_from t before (Read ∷ steps) = omega (arith, matched_from t (Read ∷ before) steps)
matched_from t before (Close ∷ steps) = omega (arith, matched_from t (Close ∷ before) steps)

pub matched_are_kept_or_dropped : MatchedAreKeptOrDropped
unfolding matched kept dropped
matched_are_kept_or_dropped t steps = matched_from t [] (before_close steps)

-- ---- In order, each once

thinned_by : (d : Bool) (m : Message) (ms ks : List Message) → IsThinned ms ks → IsThinned (m ∷ ms) (cond d [] (m ∷ []) ++ ks)
thinned_by true m ms ks h = inl h
thinned_by false m ms ks h = inr (ks, refl, h)

thinned_from : (t : Terms) (before steps : List Request) → IsThinned (all_accepted steps) (kept_from t before steps)
thinned_from t before [] = refl
thinned_from t before (Arrive (Some m) ∷ steps) =
    thinned_by (is_drop t before (Arrive (Some m))) m (all_accepted steps) (kept_from t (Arrive (Some m) ∷ before) steps) (thinned_from t (Arrive (Some m) ∷ before) steps)
thinned_from t before (Arrive None ∷ steps) = thinned_from t (Arrive None ∷ before) steps
thinned_from t before (Flush ∷ steps) = thinned_from t (Flush ∷ before) steps
thinned_from t before (Read ∷ steps) = thinned_from t (Read ∷ before) steps
thinned_from t before (Close ∷ steps) = thinned_from t (Close ∷ before) steps

pub kept_is_thinned : KeptIsThinned
unfolding kept
kept_is_thinned t steps = thinned_from t [] (before_close steps)

-- ---- Each is an accepted arrival

none_contains : (m : Message) → Contains [] m → ⊥
none_contains m c = omega (arith, c.1)

one_of : (d : Bool) (ms : List Message) (m : Message) → Contains (cond d [] ms) m → Contains ms m
one_of true ms m c = absurd (none_contains m c)
one_of false ms m c = c

accepted_from : (t : Terms) (before steps : List Request) (m : Message) → Contains (kept_from t before steps) m → Contains (all_accepted steps) m
accepted_from t before [] m c = c
accepted_from t before (step ∷ steps) m c =
    elim (Contains-append_cases (cond (is_drop t before step) [] (accepted step)) (kept_from t (step ∷ before) steps) m c) [
      | inl first ↦ Contains-append_left (accepted step) (all_accepted steps) m (one_of (is_drop t before step) (accepted step) m first)
      | inr later ↦ Contains-append_right (accepted step) (all_accepted steps) m (accepted_from t (step ∷ before) steps m later)
    ]

before_by : (front : List Message) (steps : List Request) (m : Message) → Contains (front ++ all_accepted (before_close steps)) m
    → (Contains (all_accepted (before_close steps)) m → Contains (all_accepted steps) m) → Contains (front ++ all_accepted steps) m
before_by front steps m c more =
    elim (Contains-append_cases front (all_accepted (before_close steps)) m c) [
      | inl first ↦ Contains-append_left front (all_accepted steps) m first
      | inr later ↦ Contains-append_right front (all_accepted steps) m (more later)
    ]

-- the steps up to the Close are some of the steps
before_are_some : (steps : List Request) (m : Message) → Contains (all_accepted (before_close steps)) m → Contains (all_accepted steps) m
before_are_some [] m c = c
before_are_some (Close ∷ steps) m c = absurd (none_contains m c)
before_are_some (Arrive (Some n) ∷ steps) m c = before_by (n ∷ []) steps m c (before_are_some steps m)
before_are_some (Arrive None ∷ steps) m c = before_are_some steps m c
before_are_some (Flush ∷ steps) m c = before_are_some steps m c
before_are_some (Read ∷ steps) m c = before_are_some steps m c

pub kept_are_accepted : KeptAreAccepted
unfolding kept
kept_are_accepted t steps m c = before_are_some steps m (accepted_from t [] (before_close steps) m c)
