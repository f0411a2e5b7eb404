-- What a writer takes, call after call.
use Rattle.std.proofs.Common.{◌≡◌, ℕ, zero, suc, ◌+◌, ◌<◌, get_or, List, [], ◌∷◌, ◌++◌, length, take, Option, Result, Ok, Err, refl, sym, ap, subst, ◌∙◌, append_assoc, arith}
use Rattle.std.proofs.lemmas.List.{append-nil}
use Rattle.std.proofs.KnownBytes.{Appends-nil, Appends-trans, Appends-kept}
use Rattle.std.specs.Io.KnownBytes.{Appends, Keeps}
use Rattle.std.specs.List.{flat_map}
use Rattle.line_text.specs.Sending.{Takes, TakesPart}
use Rattle.line_text.specs.Texts.{numbered}

-- nothing was taken
pub TakesPart-none : (o : Option (List ℕ)) (text : List ℕ) → TakesPart o o text
TakesPart-none o text = record { part = []; begins = (text, refl); appends = Appends-nil o }

-- a text and a beginning of the next one
pub TakesPart-then : (a b c : Option (List ℕ)) (s t : List ℕ) → Appends a b s → TakesPart b c t → TakesPart a c (s ++ t)
TakesPart-then a b c s t first part = record {
  part = s ++ part.part;
  begins = (part.begins.0, ap (λ (x : List ℕ). s ++ x) part.begins.1 ∙ sym (append_assoc s part.part part.begins.0));
  appends = Appends-trans a b c s part.part first part.appends;
}

-- a beginning of the first text begins both
pub TakesPart-more : (a b : Option (List ℕ)) (s t : List ℕ) → TakesPart a b s → TakesPart a b (s ++ t)
TakesPart-more a b s t part = record {
  part = part.part;
  begins = (part.begins.0 ++ t, ap (λ (x : List ℕ). x ++ t) part.begins.1 ∙ append_assoc part.part part.begins.0 t);
  appends = part.appends;
}

-- one text, and then another, by calls of which the second comes only where the first went well
pub Takes-then : {A E : Type 0} (a b c : Option (List ℕ)) (s t : List ℕ) (r : Result A E) → Appends a b s → Takes b c r t → Takes a c r (s ++ t)
Takes-then a b c s t (Ok x) first second = Appends-trans a b c s t first second
Takes-then a b c s t (Err e) first second = TakesPart-then a b c s t first second

-- ---- the texts of a list's elements, one by one

-- after the first i, the next one, and more after it
numbered-cut : {X : Type 0} (f : ℕ → X → List ℕ) (n : ℕ) (xs : List X) (i : ℕ) (x : X) → i < length xs → x ≡ get_or xs i x →
    (more : List ℕ) × (numbered f n xs ≡ (numbered f n (take i xs) ++ f (n + i) x) ++ more)
numbered-cut f n [] i x inside is = absurd (omega arith)
numbered-cut f n (y ∷ xs) zero x inside is =
    let same : n + 0 ≡ n = omega arith in
    let here : y ≡ x = sym is in
    (numbered f (suc n) xs, rw (same, here) refl)
numbered-cut f n (y ∷ xs) (suc i) x inside is =
    let same : suc n + i ≡ n + suc i = omega arith in
    let later = numbered-cut f (suc n) xs i x (omega arith) is in
    let front = numbered f (suc n) (take i xs) in (
      later.0,
      ap (λ (t : List ℕ). f n y ++ t) (later.1 ∙ ap (λ k. (front ++ f k x) ++ later.0) same)
          ∙ sym (append_assoc (f n y) (front ++ f (n + suc i) x) later.0)
          ∙ ap (λ (t : List ℕ). t ++ later.0) (sym (append_assoc (f n y) front (f (n + suc i) x))),
    )

-- the first ones, and one more
numbered-more : {X : Type 0} (f : ℕ → X → List ℕ) (n : ℕ) (xs : List X) (i : ℕ) (x : X) → i < length xs → x ≡ get_or xs i x →
    numbered f n (take (suc i) xs) ≡ numbered f n (take i xs) ++ f (n + i) x
numbered-more f n [] i x inside is = absurd (omega arith)
numbered-more f n (y ∷ xs) zero x inside is =
    let same : n + 0 ≡ n = omega arith in
    let here : y ≡ x = sym is in
    rw (same, here) (append-nil (f n x))
numbered-more f n (y ∷ xs) (suc i) x inside is =
    let same : suc n + i ≡ n + suc i = omega arith in
    ap (λ (t : List ℕ). f n y ++ t) (numbered-more f (suc n) xs i x (omega arith) is ∙ ap (λ k. numbered f (suc n) (take i xs) ++ f k x) same)
    ∙ sym (append_assoc (f n y) (numbered f (suc n) (take i xs)) (f (n + suc i) x))

-- where the i-th fails, a beginning of all was taken
pub TakesPart-numbered : {X : Type 0} (f : ℕ → X → List ℕ) (xs : List X) (i : ℕ) (x : X) (a b c : Option (List ℕ)) → i < length xs → x ≡ get_or xs i x →
    Appends a b (numbered f 0 (take i xs)) → TakesPart b c (f i x) → TakesPart a c (numbered f 0 xs)
TakesPart-numbered f xs i x a b c inside is before part =
    let cut = numbered-cut f 0 xs i x inside is in
    let here : 0 + i ≡ i = omega arith in
    let whole = cut.1 ∙ ap (λ k. (numbered f 0 (take i xs) ++ f k x) ++ cut.0) here in
    subst (TakesPart a c) (sym whole) (TakesPart-more a c _ _ (TakesPart-then a b c _ _ before part))

-- and where it goes well, the texts up to it were taken
pub Appends-numbered : {X : Type 0} (f : ℕ → X → List ℕ) (xs : List X) (i : ℕ) (x : X) (a b c : Option (List ℕ)) → i < length xs → x ≡ get_or xs i x →
    Appends a b (numbered f 0 (take i xs)) → Appends b c (f i x) → Appends a c (numbered f 0 (take (i + 1) xs))
Appends-numbered f xs i x a b c inside is before next =
    let here : 0 + i ≡ i = omega arith in
    let more : i + 1 ≡ suc i = omega arith in
    let grown = numbered-more f 0 xs i x inside is ∙ ap (λ k. numbered f 0 (take i xs) ++ f k x) here in
    rw more (subst (Appends a c) (sym grown) (Appends-trans a b c _ _ before next))

-- the same of texts that are not numbered
numbered-flat : {X : Type 0} (f : X → List ℕ) (n : ℕ) (xs : List X) → numbered (λ k x. f x) n xs ≡ flat_map f xs
numbered-flat f n [] = refl
numbered-flat f n (x ∷ xs) = ap (λ (t : List ℕ). f x ++ t) (numbered-flat f (suc n) xs)

pub TakesPart-at : {X : Type 0} (f : X → List ℕ) (xs : List X) (i : ℕ) (x : X) (a b c : Option (List ℕ)) → i < length xs → x ≡ get_or xs i x →
    Appends a b (flat_map f (take i xs)) → TakesPart b c (f x) → TakesPart a c (flat_map f xs)
TakesPart-at f xs i x a b c inside is before part =
    subst (TakesPart a c) (numbered-flat f 0 xs)
    (TakesPart-numbered (λ k y. f y) xs i x a b c inside is (subst (Appends a b) (sym (numbered-flat f 0 (take i xs))) before) part)

-- and where it goes well
pub Appends-at : {X : Type 0} (f : X → List ℕ) (xs : List X) (i : ℕ) (x : X) (a b c : Option (List ℕ)) → i < length xs → x ≡ get_or xs i x →
    Appends a b (flat_map f (take i xs)) → Appends b c (f x) → Appends a c (flat_map f (take (i + 1) xs))
Appends-at f xs i x a b c inside is before next =
    subst (Appends a c) (numbered-flat f 0 (take (i + 1) xs))
    (Appends-numbered (λ k y. f y) xs i x a b c inside is (subst (Appends a b) (sym (numbered-flat f 0 (take i xs))) before) next)

-- where the i-th is not begun
pub TakesPart-before : {X : Type 0} (f : X → List ℕ) (xs : List X) (i : ℕ) (x : X) (a b : Option (List ℕ)) → i < length xs → x ≡ get_or xs i x →
    Appends a b (flat_map f (take i xs)) → TakesPart a b (flat_map f xs)
TakesPart-before f xs i x a b inside is before = TakesPart-at f xs i x a b b inside is before (TakesPart-none b (f x))

-- a text was taken, and then the writer flushed
pub Takes-flushed : {A E : Type 0} (a b c : Option (List ℕ)) (text : List ℕ) (r : Result A E) → Appends a b text → Keeps b c → Takes a c r text
Takes-flushed a b c text (Ok x) taken kept = Appends-kept a b c text taken kept
Takes-flushed a b c text (Err e) taken kept = record { part = text; begins = ([], sym (append-nil text)); appends = Appends-kept a b c text taken kept }
