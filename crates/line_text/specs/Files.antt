-- Files of lines, each of which says something.
use Rattle.std.specs.Prelude.{◌≡◌, ℕ, ◌+◌, List, [], ◌∷◌, ◌++◌, length}
use Rattle.bpfvm.specs.Listing.{further_lines}

-- each line says its element, in order
abbrev pub Say : {X : Type 0} → (List ℕ → X → Type 0) → List (List ℕ) → List X → Type 0
Say Is [] [] = Unit {0}
Say Is (line ∷ lines) (x ∷ xs) = Is line x × Say Is lines xs
Say Is [] (x ∷ xs) = ⊥
Say Is (line ∷ lines) [] = ⊥

-- The lines of a text say these elements. A line ends with byte 10, which the last one may lack; an empty text has no line.
abbrev pub IsFileOf : {X : Type 0} → (List ℕ → X → Type 0) → List ℕ → List X → Type 0
IsFileOf Is text xs = Say Is (further_lines text) xs

-- the n-th line of a text, from 1, is the first malformed one
pub record IsFirstBad {X : Type 0} (Is : List ℕ → X → Type 0) (text : List ℕ) (n : ℕ) : Type 0 where
  pub before : List (List ℕ)
  pub line : List ℕ
  pub behind : List (List ℕ)
  pub lines : further_lines text ≡ before ++ line ∷ behind
  pub said : List X
  pub good : Say Is before said
  pub bad : (x : X) → Is line x → ⊥
  pub place : n ≡ length before + 1
