-- What waits in a buffer.
use Rattle.std.specs.Prelude.{ℕ, Bool, true, false, List, [], ◌∷◌}

abbrev pub is_filled : List ℕ → Bool
is_filled [] = false
is_filled (byte ∷ rest) = true
