-- How far the lines of a file are read.
use Rattle.std.proofs.Common.{◌≡◌, ℕ, suc, ◌+◌, List, [], ◌∷◌, ◌++◌, length, refl, sym, ap, ◌∙◌, append_assoc, arith, subst}
use Rattle.std.proofs.lemmas.List.{append-nil}
use Rattle.bpfvm.specs.Listing.{further_lines}
use Rattle.line_text.specs.Files.{Say, IsFileOf, IsFirstBad}

-- these are read of all the lines, of which these are left
pub record IsRead {X : Type 0} (Is : List ℕ → X → Type 0) (all left : List (List ℕ)) (xs : List X) : Type 0 where
  pub front : List (List ℕ)
  pub lines : all ≡ front ++ left
  pub each : Say Is front xs

pub IsRead-none : {X : Type 0} (Is : List ℕ → X → Type 0) (all : List (List ℕ)) → IsRead Is all all []
IsRead-none Is all = record { front = []; lines = refl; each = tt }

Say-push : {X : Type 0} (Is : List ℕ → X → Type 0) (lines : List (List ℕ)) (xs : List X) (line : List ℕ) (x : X) → Say Is lines xs → Is line x → Say Is (lines ++ line ∷ []) (xs ++ x ∷ [])
Say-push Is [] [] line x each is = (is, tt)
Say-push Is (l ∷ lines) (y ∷ ys) line x each is = (each.0, Say-push Is lines ys line x each.1 is)
Say-push Is [] (y ∷ ys) line x each is = absurd each
Say-push Is (l ∷ lines) [] line x each is = absurd each

pub length-Say : {X : Type 0} (Is : List ℕ → X → Type 0) (lines : List (List ℕ)) (xs : List X) → Say Is lines xs → length lines ≡ length xs
length-Say Is [] [] each = refl
length-Say Is (l ∷ lines) (x ∷ xs) each = ap suc (length-Say Is lines xs each.1)
length-Say Is [] (x ∷ xs) each = absurd each
length-Say Is (l ∷ lines) [] each = absurd each

-- the next line says its element
pub IsRead-more : {X : Type 0} (Is : List ℕ → X → Type 0) (all left left' : List (List ℕ)) (xs : List X) (line : List ℕ) (x : X) → left ≡ line ∷ left' → IsRead Is all left xs → Is line x → IsRead Is all left' (xs ++ x ∷ [])
IsRead-more Is all left left' xs line x cut read is = record {
  front = read.front ++ line ∷ [];
  lines = read.lines ∙ ap (λ (ls : List (List ℕ)). read.front ++ ls) cut ∙ sym (append_assoc read.front (line ∷ []) left');
  each = Say-push Is read.front xs line x read.each is;
}

-- or has not its form
pub IsRead-bad : {X : Type 0} (Is : List ℕ → X → Type 0) (text : List ℕ) (left left' : List (List ℕ)) (xs : List X) (line : List ℕ) → left ≡ line ∷ left' → IsRead Is (further_lines text) left xs → ((x : X) → Is line x → ⊥) → IsFirstBad Is text (length xs + 1)
IsRead-bad Is text left left' xs line cut read bad = record {
  before = read.front;
  line = line;
  behind = left';
  lines = read.lines ∙ ap (λ (ls : List (List ℕ)). read.front ++ ls) cut;
  said = xs;
  good = read.each;
  bad = bad;
  place = omega (arith, length-Say Is read.front xs read.each);
}

-- all are read
pub IsRead-all : {X : Type 0} (Is : List ℕ → X → Type 0) (text rest : List ℕ) (xs : List X) → rest ≡ [] → IsRead Is (further_lines text) (further_lines rest) xs → IsFileOf Is text xs
IsRead-all Is text rest xs none read =
    let lines : further_lines text ≡ read.front = read.lines ∙ ap (λ (t : List ℕ). read.front ++ further_lines t) none ∙ append-nil read.front in
    rw lines read.each

-- the line at a place says its element
Say-at : {X : Type 0} (Is : List ℕ → X → Type 0) (before behind : List (List ℕ)) (line : List ℕ) (xs : List X) → Say Is (before ++ line ∷ behind) xs → (x : X) × Is line x
Say-at Is [] behind line (x ∷ xs) each = (x, each.0)
Say-at Is [] behind line [] each = absurd each
Say-at Is (l ∷ before) behind line (x ∷ xs) each = Say-at Is before behind line xs each.1
Say-at Is (l ∷ before) behind line [] each = absurd each

-- so no line is bad where all say theirs
pub none_bad : {X : Type 0} (Is : List ℕ → X → Type 0) (text : List ℕ) (xs : List X) (n : ℕ) → IsFileOf Is text xs → IsFirstBad Is text n → ⊥
none_bad Is text xs n file bad =
    let said = Say-at Is bad.before bad.behind bad.line xs (subst (λ (lines : List (List ℕ)). Say Is lines xs) bad.lines file) in
    bad.bad said.0 said.1
