-- Numbers with a comma between: each is put after a comma, and the first comma is left out.
use Rattle.std.proofs.Common.{◌≡◌, ℕ, Bool, true, false, List, [], ◌∷◌, ◌++◌, drop, refl}

-- whether a text of numbers, each after a comma, has one
abbrev pub IsBegun : Bool → List ℕ → Type 0
IsBegun true text = text ≡ []
IsBegun false text = (rest : List ℕ) × (text ≡ 44 ∷ rest)

-- the first number stands alone
pub first_number : (text digits : List ℕ) → IsBegun true text → drop 1 (text ++ 44 ∷ digits) ≡ digits
first_number text digits none = rw none refl

-- each further one comes after a comma
pub next_number : (text digits : List ℕ) → IsBegun false text → drop 1 (text ++ 44 ∷ digits) ≡ drop 1 text ++ 44 ∷ digits
next_number text digits begun = rw begun.1 refl

-- with a number it is begun
pub begun : (first : Bool) (text digits : List ℕ) → IsBegun first text → IsBegun false (text ++ 44 ∷ digits)
begun true text digits none = (digits, rw none refl)
begun false text digits some = (some.0 ++ 44 ∷ digits, rw some.1 refl)
