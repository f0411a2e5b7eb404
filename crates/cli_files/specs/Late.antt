-- What a file that is opened late has left.
use Rattle.std.specs.Prelude.{ℕ, Bool, true, false, List, [], Option, Some}

-- nothing at its end
abbrev pub left_of : Option (List ℕ) → Bool → Option (List ℕ)
left_of file true = Some []
left_of file false = file
