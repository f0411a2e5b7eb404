-- Texts that are read, and captures that are opened and closed one after the other.
use Rattle.std.proofs.Common.{◌≡◌, ◌⊎◌, inl, inr, ℕ, zero, suc, ◌<◌, ◌≤◌, drop, take, length-take, List, [], ◌∷◌, ◌++◌, length, sym, refl, subst, ap, ◌∙◌, arith, Option, Some, None, IfSome, option_copied, Bor}
use Rattle.std.proofs.lemmas.List.{append-nil, append_assoc}
use Rattle.std.specs.List.{AllZip, Any}

-- one of a list is the first, or one of the others
pub any-next : {X : Type 0} (P : X → Type 0) (xs : List X) (x : X) (rest : List X) → xs ≡ x ∷ rest → Any P xs → P x ⊎ Any P rest
any-next P [] x rest is (k, y, inside, here, holds) = absurd (omega (arith, inside))
any-next P (z ∷ zs) x rest is (zero, y, inside, here, holds) =
    let first : z ≡ x = cc in
    inl (subst P (sym here ∙ first) holds)
any-next P (z ∷ zs) x rest is (suc k, y, inside, here, holds) =
    let others : zs ≡ rest = cc in
    subst (λ ys. P x ⊎ Any P ys) others (inr (k, y, omega (arith, inside), here, holds))

-- none is one of none
pub any-none : {X : Type 0} (P : X → Type 0) (xs : List X) → length xs ≡ 0 → Any P xs → ⊥
any-none P xs none (k, y, inside, here, holds) = absurd (omega (arith, inside, none))

-- What was made so far completes with what is made of the rest to what is made of all.
abbrev pub Completes : {X Y : Type 0} → (X → Y → Type 0) → List X → List Y → List X → Type 0
Completes {X} {Y} R all made rest = (more : List Y) → AllZip R rest more → AllZip R all (made ++ more)

completes-more : {X Y : Type 0} (R : X → Y → Type 0) (all : List X) (made : List Y) (x : X) (rest : List X) (y : Y) → Completes R all made (x ∷ rest) → R x y
    → Completes R all (made ++ y ∷ []) rest
completes-more R all made x rest y c r = λ more z. subst (λ ys. AllZip R all ys) (sym (append_assoc made (y ∷ []) more)) (c (y ∷ more) (r, z))

-- one item more, with the lists as a loop has them
pub completes-next : {X Y : Type 0} (R : X → Y → Type 0) (all : List X) (made made' : List Y) (x : X) (rest rest' : List X) (y : Y) → Completes R all made rest
    → rest ≡ x ∷ rest' → made' ≡ made ++ y ∷ [] → R x y → Completes R all made' rest'
completes-next R all made made' x rest rest' y c taken given r =
    subst (λ ys. Completes R all ys rest') (sym given) (completes-more R all made x rest' y (subst (λ xs. Completes R all made xs) taken c) r)

pub completed : {X Y : Type 0} (R : X → Y → Type 0) (all : List X) (made : List Y) (rest : List X) → Completes R all made rest → length rest ≡ 0 → AllZip R all made
completed R all made [] c none = subst (λ ys. AllZip R all ys) (append-nil made) (c [] tt)
completed R all made (x ∷ rest) c none = absurd (omega (arith, none))

-- nothing was made so far
pub completes-none : {X Y : Type 0} (R : X → Y → Type 0) (all : List X) (made : List Y) (rest : List X) → length made ≡ 0 → rest ≡ all → Completes R all made rest
completes-none R all [] rest none same = λ more z. subst (λ xs. AllZip R xs more) same z
completes-none R all (y ∷ ys) rest none same = absurd (omega (arith, none))

-- what holds of the path that is given
pub if-given : (P : List ℕ → Type 0) (given : Option (Bor (List ℕ))) (path : Bor (List ℕ)) → given ≡ Some path → P path.now → IfSome (option_copied given) P
if-given P None path is holds = tt
if-given P (Some p) path is holds =
    let same : p ≡ path = cc in
    subst (λ (b : Bor (List ℕ)). P b.now) (sym same) holds

-- after all items none is left
pub none-left : {X : Type 0} (n : ℕ) (xs : List X) → length xs ≤ n → length (drop n xs) ≡ 0
none-left zero [] few = refl
none-left (suc n) [] few = refl
none-left zero (x ∷ xs) few = absurd (omega (arith, few))
none-left (suc n) (x ∷ xs) few = none-left n xs (omega (arith, few))

-- the first bytes of a text that are fewer than could be taken are all of it
take_short : (n : ℕ) (xs : List ℕ) → length (take n xs) < n → take n xs ≡ xs
take_short zero xs short = absurd (omega (arith, short))
take_short (suc n) [] short = refl
take_short (suc n) (x ∷ xs) short = ap (λ (ys : List ℕ). x ∷ ys) (take_short n xs (omega (arith, short)))

-- a text of which more than m bytes could be taken has more, and one of which at most m of m + 1 could be taken is whole
pub long_front : (m n : ℕ) (text whole : List ℕ) → text ≡ take n whole → m < length text → m < length whole
long_front m n text whole front long = omega (arith, length-take n whole, ap length front, long)

pub short_front : (m : ℕ) (text whole : List ℕ) → text ≡ take (suc m) whole → length text ≤ m → whole ≡ text
short_front m text whole front short =
    sym (front ∙ take_short (suc m) whole (omega (arith, ap length front, short)))
