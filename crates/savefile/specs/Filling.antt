-- Bytes that are written into a text of a fixed length, number by number.
use Rattle.std.specs.Prelude.{◌≡◌, ℕ, List, ◌++◌, length, drop}

-- these bytes follow the first `at` bytes of a text, and the rest is as it was
abbrev pub Fills : ℕ → List ℕ → List ℕ → List ℕ → Type 0
Fills at old bytes new =
    (front rest : List ℕ) → old ≡ front ++ rest → length front ≡ at → new ≡ (front ++ bytes) ++ drop (length bytes) rest
