-- A line has one way of being cut at its first space.
use Rattle.std.proofs.Common.{◌≡◌, ◌≢◌, ℕ, List, [], ◌∷◌, ◌++◌, All, Option, Some, None, IfNone, refl}
use Rattle.std.proofs.lemmas.List.Elements.{All-head, All-tail}
use Rattle.bpfvm.specs.Listing.{space}

abbrev pub NoSpace : ℕ → Type 0
NoSpace b = b ≢ space

-- an early return's goal, where the fact holds whatever is returned
pub if_none : {A : Type 0} (r : Option A) (P : Type 0) → P → IfNone r P
if_none None P p = p
if_none (Some x) P p = tt

-- a byte is in a list in which it stands
pub not-lacking : (byte : ℕ) (xs ys : List ℕ) → All (λ b. b ≢ byte) (xs ++ byte ∷ ys) → ⊥
not-lacking byte [] ys none = All-head (λ b. b ≢ byte) byte ys none refl
not-lacking byte (x ∷ xs) ys none = not-lacking byte xs ys (All-tail (λ b. b ≢ byte) x (xs ++ byte ∷ ys) none)

-- a list is cut at the first such byte in one way
pub cut-one : (byte : ℕ) (xs ys xs' ys' : List ℕ) → All (λ b. b ≢ byte) xs → All (λ b. b ≢ byte) xs' → xs ++ byte ∷ ys ≡ xs' ++ byte ∷ ys' → (xs ≡ xs') × (ys ≡ ys')
cut-one byte [] ys [] ys' none none' same = (refl, cc)
cut-one byte [] ys (x' ∷ xs') ys' none none' same = absurd (All-head (λ b. b ≢ byte) x' xs' none' cc)
cut-one byte (x ∷ xs) ys [] ys' none none' same = absurd (All-head (λ b. b ≢ byte) x xs none cc)
cut-one byte (x ∷ xs) ys (x' ∷ xs') ys' none none' same =
    let head : x ≡ x' = cc in
    let later = cut-one byte xs ys xs' ys' (All-tail (λ b. b ≢ byte) x xs none) (All-tail (λ b. b ≢ byte) x' xs' none') cc in
    let tail = later.0 in
    (cc, later.1)
