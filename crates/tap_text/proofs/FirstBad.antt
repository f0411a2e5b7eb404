-- A file has one first bad line.
use Rattle.std.proofs.Common.{◌≡◌, ℕ, suc, List, [], ◌∷◌, ◌++◌, length, refl, sym, ap, subst, ◌∙◌, arith}
use Rattle.line_text.specs.Files.{Say}
use Rattle.tap_text.specs.Laws.{FirstBadIsOne}

-- the line has not its form
abbrev IsBad : {X : Type 0} → (List ℕ → X → Type 0) → List ℕ → Type 0
IsBad {X} Is line = (x : X) → Is line x → ⊥

-- a line that has its form is not bad
good-not-bad : {X : Type 0} (Is : List ℕ → X → Type 0) (line bad : List ℕ) (lines : List (List ℕ)) (xs : List X) → bad ≡ line → Say Is (line ∷ lines) xs → IsBad Is bad → ⊥
good-not-bad Is line bad lines (x ∷ xs) same said none = none x (subst (λ (l : List ℕ). Is l x) (sym same) said.0)
good-not-bad Is line bad lines [] same said none = absurd said

later-said : {X : Type 0} (Is : List ℕ → X → Type 0) (line : List ℕ) (lines : List (List ℕ)) (xs : List X) → Say Is (line ∷ lines) xs → (ys : List X) × Say Is lines ys
later-said Is line lines (x ∷ xs) said = (xs, said.1)
later-said Is line lines [] said = absurd said

-- as many lines stand before either
as-many : {X : Type 0} (Is : List ℕ → X → Type 0) (a b : List (List ℕ)) (x y : List ℕ) (c d : List (List ℕ)) (s t : List X) → a ++ x ∷ c ≡ b ++ y ∷ d →
    Say Is a s → Say Is b t → IsBad Is x → IsBad Is y → length a ≡ length b
as-many Is [] [] x y c d s t same said told bad worse = refl
as-many Is [] (l ∷ b) x y c d s t same said told bad worse = absurd (good-not-bad Is l x b t (let e : x ≡ l = cc in e) told bad)
as-many Is (k ∷ a) [] x y c d s t same said told bad worse = absurd (good-not-bad Is k y a s (let e : y ≡ k = cc in e) said worse)
as-many Is (k ∷ a) (l ∷ b) x y c d s t same said told bad worse =
    let rest : a ++ x ∷ c ≡ b ++ y ∷ d = cc in
    let one = later-said Is k a s said in
    let two = later-said Is l b t told in
    ap suc (as-many Is a b x y c d one.0 two.0 rest one.1 two.1 bad worse)

pub first_bad_one : {X : Type 0} (Is : List ℕ → X → Type 0) → FirstBadIsOne Is
first_bad_one Is text n m one two =
    omega (arith, one.place, two.place, as-many Is one.before two.before one.line two.line one.behind two.behind one.said two.said (sym one.lines ∙ two.lines) one.good two.good one.bad two.bad)
