-- The texts of the elements of lists.
use Rattle.std.specs.Prelude.{ℕ, suc, List, [], ◌∷◌, ◌++◌}

-- the texts of a list's elements, one after the other; the first element has the number n
abbrev pub numbered : {X : Type 0} → (ℕ → X → List ℕ) → ℕ → List X → List ℕ
numbered text n [] = []
numbered text n (x ∷ xs) = text n x ++ numbered text (suc n) xs

-- a line feed
abbrev pub end_of_line : List ℕ
end_of_line = 10 ∷ []
