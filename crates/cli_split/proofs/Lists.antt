-- Lists that a loop makes of others, and lists that it changes item by item.
use Rattle.std.proofs.Common.{◌≡◌, ◌+◌, ◌<◌, ◌≤◌, ℕ, zero, suc, List, [], ◌∷◌, ◌++◌, get_or, length, length-append, sym, ap, ◌∙◌, arith, subst}
use Rattle.std.proofs.Math.ListN.{set}
use Rattle.std.proofs.lemmas.List.{append-nil, append_assoc}
use Rattle.std.specs.List.{AllZip}

-- What was made so far completes with what is made of the rest to what is made of all.
abbrev pub Completes : {X Y : Type 0} → (X → Y → Type 0) → List X → List Y → List X → Type 0
Completes {X} {Y} R all made rest = (more : List Y) → AllZip R rest more → AllZip R all (made ++ more)

completes-more : {X Y : Type 0} (R : X → Y → Type 0) (all : List X) (made : List Y) (x : X) (rest : List X) (y : Y) → Completes R all made (x ∷ rest) → R x y
    → Completes R all (made ++ y ∷ []) rest
completes-more R all made x rest y c r = λ more z. subst (λ ys. AllZip R all ys) (sym (append_assoc made (y ∷ []) more)) (c (y ∷ more) (r, z))

-- one item more, with the lists as a loop has them
pub completes-next : {X Y : Type 0} (R : X → Y → Type 0) (all : List X) (made made' : List Y) (x : X) (rest rest' : List X) (y : Y) → Completes R all made rest
    → rest ≡ x ∷ rest' → made' ≡ made ++ y ∷ [] → R x y → Completes R all made' rest'
completes-next R all made made' x rest rest' y c taken given r =
    subst (λ ys. Completes R all ys rest') (sym given) (completes-more R all made x rest' y (subst (λ xs. Completes R all made xs) taken c) r)

pub completed : {X Y : Type 0} (R : X → Y → Type 0) (all : List X) (made : List Y) (rest : List X) → Completes R all made rest → length rest ≡ 0 → AllZip R all made
completed R all made [] c none = subst (λ ys. AllZip R all ys) (append-nil made) (c [] tt)
completed R all made (x ∷ rest) c none = absurd (omega (arith, none))

-- nothing was made so far
pub completes-none : {X Y : Type 0} (R : X → Y → Type 0) (all : List X) (made : List Y) (rest : List X) → length made ≡ 0 → rest ≡ all → Completes R all made rest
completes-none R all [] rest none same = λ more z. subst (λ xs. AllZip R xs more) same z
completes-none R all (y ∷ ys) rest none same = absurd (omega (arith, none))

-- what was made and what is left are as many as before
pub as-many : {X Y : Type 0} (made made' : List Y) (x : X) (rest rest' : List X) (y : Y) (n : ℕ) → length made + length rest ≡ n → rest ≡ x ∷ rest' → made' ≡ made ++ y ∷ []
    → length made' + length rest' ≡ n
as-many made made' x rest rest' y n so taken given = omega (arith, so, ap length taken, ap length given, length-append made (y ∷ []))

-- an item goes from what is left to what was taken
pub goes-over : {X : Type 0} (taken taken' : List X) (x : X) (rest rest' all : List X) → taken ++ rest ≡ all → rest ≡ x ∷ rest' → taken' ≡ taken ++ x ∷ [] → taken' ++ rest' ≡ all
goes-over taken taken' x rest rest' all so out given = ap (λ xs. xs ++ rest') given ∙ append_assoc taken (x ∷ []) rest' ∙ ap (λ xs. taken ++ xs) (sym out) ∙ so

pub all-over : {X : Type 0} (taken rest all : List X) → taken ++ rest ≡ all → length rest ≡ 0 → taken ≡ all
all-over taken [] all so none = sym (append-nil taken) ∙ so
all-over taken (x ∷ rest) all so none = absurd (omega (arith, none))

-- two lists that stand so through a third
pub zip-through : {X Y Z : Type 0} (R : X → Y → Type 0) (S : Y → Z → Type 0) (T : X → Z → Type 0) → ((x : X) (y : Y) (z : Z) → R x y → S y z → T x z) →
    (xs : List X) (ys : List Y) (zs : List Z) → AllZip R xs ys → AllZip S ys zs → AllZip T xs zs
zip-through R S T through [] [] [] r s = tt
zip-through R S T through [] [] (z ∷ zs) r s = absurd s
zip-through R S T through [] (y ∷ ys) zs r s = absurd r
zip-through R S T through (x ∷ xs) [] zs r s = absurd r
zip-through R S T through (x ∷ xs) (y ∷ ys) [] r s = absurd s
zip-through R S T through (x ∷ xs) (y ∷ ys) (z ∷ zs) r s = (through x y z r.0 s.0, zip-through R S T through xs ys zs r.1 s.1)

-- two lists that stand so, and so too
pub zip-weaker : {X Y : Type 0} (R S : X → Y → Type 0) → ((x : X) (y : Y) → R x y → S x y) → (xs : List X) (ys : List Y) → AllZip R xs ys → AllZip S xs ys
zip-weaker R S weaker [] [] r = tt
zip-weaker R S weaker [] (y ∷ ys) r = absurd r
zip-weaker R S weaker (x ∷ xs) [] r = absurd r
zip-weaker R S weaker (x ∷ xs) (y ∷ ys) r = (weaker x y r.0, zip-weaker R S weaker xs ys r.1)

module _ {X Y : Type 0} (R S : X → Y → Type 0) where
  -- the first n items of two lists stand so to one another, and the others as before
  abbrev pub Half : List X → List Y → ℕ → Type 0
  Half [] [] n = Unit {0}
  Half [] (y ∷ ys) n = ⊥
  Half (x ∷ xs) [] n = ⊥
  Half (x ∷ xs) (y ∷ ys) zero = R x y × Half xs ys zero
  Half (x ∷ xs) (y ∷ ys) (suc n) = S x y × Half xs ys n

  pub half-none : (xs : List X) (ys : List Y) → AllZip R xs ys → Half xs ys zero
  half-none [] [] each = tt
  half-none [] (y ∷ ys) each = absurd each
  half-none (x ∷ xs) [] each = absurd each
  half-none (x ∷ xs) (y ∷ ys) each = (each.0, half-none xs ys each.1)

  pub half-all : (xs : List X) (ys : List Y) (n : ℕ) → Half xs ys n → length ys ≤ n → AllZip S xs ys
  half-all [] [] n each past = tt
  half-all [] (y ∷ ys) n each past = absurd each
  half-all (x ∷ xs) [] n each past = absurd each
  half-all (x ∷ xs) (y ∷ ys) zero each past = absurd (omega (arith, past))
  half-all (x ∷ xs) (y ∷ ys) (suc n) each past = (each.0, half-all xs ys n each.1 (omega (arith, past)))

  pub half-at : (xs : List X) (ys : List Y) (n : ℕ) (d : Y) → Half xs ys n → n < length ys → (x : X) × R x (get_or ys n d)
  half-at [] [] n d each inside = absurd (omega (arith, inside))
  half-at [] (y ∷ ys) n d each inside = absurd each
  half-at (x ∷ xs) [] n d each inside = absurd each
  half-at (x ∷ xs) (y ∷ ys) zero d each inside = (x, each.0)
  half-at (x ∷ xs) (y ∷ ys) (suc n) d each inside = half-at xs ys n d each.1 (omega (arith, inside))

  pub half-more : (xs : List X) (ys : List Y) (n : ℕ) (d y : Y) → Half xs ys n → n < length ys → ((x : X) → R x (get_or ys n d) → S x y) → Half xs (set ys n y) (suc n)
  half-more [] [] n d y each inside next = absurd (omega (arith, inside))
  half-more [] (w ∷ ys) n d y each inside next = absurd each
  half-more (x ∷ xs) [] n d y each inside next = absurd each
  half-more (x ∷ xs) (w ∷ ys) zero d y each inside next = (next x each.0, each.1)
  half-more (x ∷ xs) (w ∷ ys) (suc n) d y each inside next = (each.0, half-more xs ys n d y each.1 (omega (arith, inside)) next)
