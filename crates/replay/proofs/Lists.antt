-- Lists that a loop takes from, and lists that it makes of them.
use Rattle.std.proofs.Common.{◌≡◌, ◌<◌, ℕ, zero, suc, List, [], ◌∷◌, ◌++◌, drop, get_or, length, length-append, map, refl, ap, sym, ◌∙◌, arith, subst}
use Rattle.std.proofs.lemmas.List.{append-nil, append_assoc}
use Rattle.std.specs.List.{AllZip}

pub empty : {X : Type 0} (xs : List X) → length xs ≡ 0 → xs ≡ []
empty [] e = refl
empty (x ∷ xs) e = absurd (omega (arith, e))

-- a list one item longer
pub grown : {X : Type 0} (xs xs' : List X) (x : X) → xs' ≡ xs ++ x ∷ [] → length xs' ≡ suc (length xs)
grown xs xs' x e = let same = ap length e in let more = length-append xs (x ∷ []) in omega (arith, same, more)

-- what is at the front once some items are gone is the next of them
pub next-there : {X : Type 0} (xs : List X) (k : ℕ) (y : X) (ys : List X) → drop k xs ≡ y ∷ ys → (k < length xs) × ((d : X) → get_or xs k d ≡ y) × (drop (suc k) xs ≡ ys)
next-there [] zero y ys e = absurd cc
next-there [] (suc k) y ys e = absurd cc
next-there (x ∷ xs) zero y ys e = (omega arith, (λ d. cc), cc)
next-there (x ∷ xs) (suc k) y ys e = let r = next-there xs k y ys e in ((let l = r.0 in omega (arith, l)), r.1, r.2)

-- the images of two lists, of which the one grows by what the other loses
pub moved : {X Y Z : Type 0} (f : X → Z) (g : Y → Z) (xs : List X) (x : X) (y : Y) (ys : List Y) (all : List Z) → map f xs ++ map g (y ∷ ys) ≡ all → f x ≡ g y
    → map f (xs ++ x ∷ []) ++ map g ys ≡ all
moved f g [] x y ys all e h = ap (λ z. z ∷ map g ys) h ∙ e
moved f g (w ∷ ws) x y ys all e h = ap (λ zs. f w ∷ zs) (moved f g ws x y ys (map f ws ++ map g (y ∷ ys)) refl h) ∙ e

-- the same, with the lists as a loop has them
pub moved-next : {X Y Z : Type 0} (f : X → Z) (g : Y → Z) (xs xs' : List X) (x : X) (y : Y) (ys ys' : List Y) (all : List Z) → map f xs ++ map g ys ≡ all
    → ys ≡ y ∷ ys' → xs' ≡ xs ++ x ∷ [] → f x ≡ g y → map f xs' ++ map g ys' ≡ all
moved-next f g xs xs' x y ys ys' all e taken given h =
    subst (λ as'. map f as' ++ map g ys' ≡ all) (sym given) (moved f g xs x y ys' all (subst (λ bs. map f xs ++ map g bs ≡ all) taken e) h)

pub all-moved : {X Y Z : Type 0} (f : X → Z) (g : Y → Z) (xs : List X) (ys : List Y) (all : List Z) → map f xs ++ map g ys ≡ all → length ys ≡ 0 → map f xs ≡ all
all-moved f g xs [] all e none = sym (append-nil (map f xs)) ∙ e
all-moved f g xs (y ∷ ys) all e none = absurd (omega (arith, none))

-- the same, where the other list stands as it is
pub moved-itself : {X Z : Type 0} (f : X → Z) (xs : List X) (x : X) (z : Z) (zs : List Z) (all : List Z) → map f xs ++ (z ∷ zs) ≡ all → f x ≡ z
    → map f (xs ++ x ∷ []) ++ zs ≡ all
moved-itself f [] x z zs all e h = ap (λ w. w ∷ zs) h ∙ e
moved-itself f (w ∷ ws) x z zs all e h = ap (λ vs. f w ∷ vs) (moved-itself f ws x z zs (map f ws ++ (z ∷ zs)) refl h) ∙ e

pub all-moved-itself : {X Z : Type 0} (f : X → Z) (xs : List X) (zs all : List Z) → map f xs ++ zs ≡ all → length zs ≡ 0 → map f xs ≡ all
all-moved-itself f xs [] all e none = sym (append-nil (map f xs)) ∙ e
all-moved-itself f xs (z ∷ zs) all e none = absurd (omega (arith, none))

-- two lists with the same images, each one item longer
pub both-longer : {X Y Z : Type 0} (f : X → Z) (g : Y → Z) (xs : List X) (x : X) (ys : List Y) (y : Y) → map f xs ≡ map g ys → f x ≡ g y
    → map f (xs ++ x ∷ []) ≡ map g (ys ++ y ∷ [])
both-longer f g [] x [] y e h = ap (λ z. z ∷ []) h
both-longer f g [] x (y' ∷ ys) y e h = absurd cc
both-longer f g (x' ∷ xs) x [] y e h = absurd cc
both-longer f g (x' ∷ xs) x (y' ∷ ys) y e h =
    let first : f x' ≡ g y' = cc in let rest : map f xs ≡ map g ys = cc in
    ap (λ z. z ∷ map f (xs ++ x ∷ [])) first ∙ ap (λ zs. g y' ∷ zs) (both-longer f g xs x ys y rest h)

-- the images of a list one item longer
pub image-longer : {X Z : Type 0} (f : X → Z) (xs : List X) (x : X) (zs : List Z) (z : Z) → map f xs ≡ zs → f x ≡ z → map f (xs ++ x ∷ []) ≡ zs ++ z ∷ []
image-longer f [] x [] z e h = ap (λ w. w ∷ []) h
image-longer f [] x (z' ∷ zs) z e h = absurd cc
image-longer f (x' ∷ xs) x [] z e h = absurd cc
image-longer f (x' ∷ xs) x (z' ∷ zs) z e h =
    let first : f x' ≡ z' = cc in let rest : map f xs ≡ zs = cc in
    ap (λ w. w ∷ map f (xs ++ x ∷ [])) first ∙ ap (λ ws. z' ∷ ws) (image-longer f xs x zs z rest h)

-- the three, with the lists as a loop has them
pub moved-itself-next : {X Z : Type 0} (f : X → Z) (xs xs' : List X) (x : X) (z : Z) (zs zs' all : List Z) → map f xs ++ zs ≡ all → zs ≡ z ∷ zs' → xs' ≡ xs ++ x ∷ [] → f x ≡ z
    → map f xs' ++ zs' ≡ all
moved-itself-next f xs xs' x z zs zs' all e taken given h =
    subst (λ as'. map f as' ++ zs' ≡ all) (sym given) (moved-itself f xs x z zs' all (subst (λ bs. map f xs ++ bs ≡ all) taken e) h)

pub both-next : {X Y Z : Type 0} (f : X → Z) (g : Y → Z) (xs xs' : List X) (x : X) (ys ys' : List Y) (y : Y) → map f xs ≡ map g ys → xs' ≡ xs ++ x ∷ [] → ys' ≡ ys ++ y ∷ []
    → f x ≡ g y → map f xs' ≡ map g ys'
both-next f g xs xs' x ys ys' y e given given' h = ap (λ as'. map f as') given ∙ both-longer f g xs x ys y e h ∙ sym (ap (λ bs. map g bs) given')

pub image-next : {X Z : Type 0} (f : X → Z) (xs xs' : List X) (x : X) (zs zs' : List Z) (z : Z) → map f xs ≡ zs → xs' ≡ xs ++ x ∷ [] → zs' ≡ zs ++ z ∷ [] → f x ≡ z
    → map f xs' ≡ zs'
image-next f xs xs' x zs zs' z e given given' h = ap (λ as'. map f as') given ∙ image-longer f xs x zs z e h ∙ sym given'

-- What was made so far completes with what is made of the rest to what is made of all.
abbrev pub Completes : {X Y : Type 0} → (X → Y → Type 0) → List X → List Y → List X → Type 0
Completes {X} {Y} R all made rest = (more : List Y) → AllZip R rest more → AllZip R all (made ++ more)

pub completes-more : {X Y : Type 0} (R : X → Y → Type 0) (all : List X) (made : List Y) (x : X) (rest : List X) (y : Y) → Completes R all made (x ∷ rest) → R x y
    → Completes R all (made ++ y ∷ []) rest
completes-more R all made x rest y c r = λ more z. subst (λ ys. AllZip R all ys) (sym (append_assoc made (y ∷ []) more)) (c (y ∷ more) (r, z))

-- the same, with the lists as a loop has them
pub completes-next : {X Y : Type 0} (R : X → Y → Type 0) (all : List X) (made made' : List Y) (x : X) (rest rest' : List X) (y : Y) → Completes R all made rest
    → rest ≡ x ∷ rest' → made' ≡ made ++ y ∷ [] → R x y → Completes R all made' rest'
completes-next R all made made' x rest rest' y c taken given r =
    subst (λ ys. Completes R all ys rest') (sym given) (completes-more R all made x rest' y (subst (λ xs. Completes R all made xs) taken c) r)

pub completed : {X Y : Type 0} (R : X → Y → Type 0) (all : List X) (made : List Y) (rest : List X) → Completes R all made rest → length rest ≡ 0 → AllZip R all made
completed R all made [] c none = subst (λ ys. AllZip R all ys) (append-nil made) (c [] tt)
completed R all made (x ∷ rest) c none = absurd (omega (arith, none))

-- two lists related item by item, of which the first items are taken
pub zip-taken : {X Y : Type 0} (R : X → Y → Type 0) (xs : List X) (x : X) (xs' : List X) (ys : List Y) (y : Y) (ys' : List Y) → AllZip R xs ys → xs ≡ x ∷ xs' → ys ≡ y ∷ ys'
    → R x y × AllZip R xs' ys'
zip-taken R xs x xs' ys y ys' z e f = subst (λ as'. AllZip R as' (y ∷ ys')) e (subst (λ bs. AllZip R xs bs) f z)

-- the same, of the items from an index on
pub zip-dropped : {X Y : Type 0} (R : X → Y → Type 0) (xs : List X) (k : ℕ) (ys : List Y) (y : Y) (ys' : List Y) → AllZip R (drop k xs) ys → ys ≡ y ∷ ys'
    → (k < length xs) × ((d : X) → R (get_or xs k d) y) × AllZip R (drop (suc k) xs) ys'
zip-dropped R [] zero [] y ys' z e = absurd cc
zip-dropped R [] (suc k) [] y ys' z e = absurd cc
zip-dropped R [] zero (y'' ∷ ys) y ys' z e = absurd z
zip-dropped R [] (suc k) (y'' ∷ ys) y ys' z e = absurd z
zip-dropped R (x ∷ xs) zero ys y ys' z e = let t = subst (λ bs. AllZip R (x ∷ xs) bs) e z in (omega arith, (λ d. t.0), t.1)
zip-dropped R (x ∷ xs) (suc k) ys y ys' z e = let t = zip-dropped R xs k ys y ys' z e in ((let l = t.0 in omega (arith, l)), t.1, t.2)

-- two lists related item by item, each one item longer
zip-longer : {X Y : Type 0} (R : X → Y → Type 0) (xs : List X) (ys : List Y) (x : X) (y : Y) → AllZip R xs ys → R x y → AllZip R (xs ++ x ∷ []) (ys ++ y ∷ [])
zip-longer R [] [] x y z r = (r, tt)
zip-longer R [] (y' ∷ ys) x y z r = absurd z
zip-longer R (x' ∷ xs) [] x y z r = absurd z
zip-longer R (x' ∷ xs) (y' ∷ ys) x y z r = (z.0, zip-longer R xs ys x y z.1 r)

pub zip-pushed : {X Y : Type 0} (R : X → Y → Type 0) (xs xs' : List X) (ys ys' : List Y) (x : X) (y : Y) → AllZip R xs ys → xs' ≡ xs ++ x ∷ [] → ys' ≡ ys ++ y ∷ [] → R x y
    → AllZip R xs' ys'
zip-pushed R xs xs' ys ys' x y z e f r = subst (λ as'. AllZip R as' ys') (sym e) (subst (λ bs. AllZip R (xs ++ x ∷ []) bs) (sym f) (zip-longer R xs ys x y z r))
