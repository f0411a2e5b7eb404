-- Items that are changed one after the other.
use Rattle.std.proofs.Common.{◌≡◌, ℕ, zero, suc, ◌+◌, ◌<◌, ◌≤◌, List, [], ◌∷◌, get_or, length, ap, subst, arith}
use Rattle.std.proofs.Math.ListN.{set}
use Rattle.std.specs.List.{AllZip}

-- this many items at the front are changed, and the others are as they were
abbrev pub ChangedUpTo : {X : Type 0} → (X → X → Type 0) → ℕ → List X → List X → Type 0
ChangedUpTo R zero xs ys = ys ≡ xs
ChangedUpTo R (suc i) [] ys = ys ≡ []
ChangedUpTo R (suc i) (x ∷ xs) [] = ⊥
ChangedUpTo R (suc i) (x ∷ xs) (y ∷ ys) = R x y × ChangedUpTo R i xs ys

further : {X : Type 0} (R : X → X → Type 0) (i : ℕ) (xs ys : List X) (d y : X) → i < length xs → ChangedUpTo R i xs ys → R (get_or ys i d) y → ChangedUpTo R (suc i) xs (set ys i y)
further R i [] ys d y inside before changes = absurd (omega (arith, inside))
further R zero (x ∷ xs) [] d y inside before changes = absurd cc
further R zero (x ∷ xs) (z ∷ ys) d y inside before changes =
    let same : z ≡ x = cc in
    (subst (λ w. R w y) same changes, cc)
further R (suc i) (x ∷ xs) [] d y inside before changes = absurd before
further R (suc i) (x ∷ xs) (z ∷ ys) d y inside before changes = (before.0, further R i xs ys d y (omega (arith, inside)) before.1 changes)

-- one item more
pub changed_more : {X : Type 0} (R : X → X → Type 0) (i : ℕ) (xs ys : List X) (d y : X) → i < length xs → ChangedUpTo R i xs ys → R (get_or ys i d) y → ChangedUpTo R (i + 1) xs (set ys i y)
changed_more R i xs ys d y inside before changes =
    let next : suc i ≡ i + 1 = omega arith in
    subst (λ k. ChangedUpTo R k xs (set ys i y)) next (further R i xs ys d y inside before changes)

-- there are as many as before
pub length_changed : {X : Type 0} (R : X → X → Type 0) (i : ℕ) (xs ys : List X) → ChangedUpTo R i xs ys → length ys ≡ length xs
length_changed R zero xs ys changed = ap length changed
length_changed R (suc i) [] ys changed = ap length changed
length_changed R (suc i) (x ∷ xs) [] changed = absurd changed
length_changed R (suc i) (x ∷ xs) (y ∷ ys) changed = ap suc (length_changed R i xs ys changed.1)

-- all of them
pub changed_all : {X : Type 0} (R : X → X → Type 0) (i : ℕ) (xs ys : List X) → length xs ≤ i → ChangedUpTo R i xs ys → AllZip R xs ys
changed_all R zero [] [] past changed = tt
changed_all R zero [] (y ∷ ys) past changed = absurd cc
changed_all R zero (x ∷ xs) ys past changed = absurd (omega (arith, past))
changed_all R (suc i) [] [] past changed = tt
changed_all R (suc i) [] (y ∷ ys) past changed = absurd cc
changed_all R (suc i) (x ∷ xs) [] past changed = absurd changed
changed_all R (suc i) (x ∷ xs) (y ∷ ys) past changed = (changed.0, changed_all R i xs ys (omega (arith, past)) changed.1)
