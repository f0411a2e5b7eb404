-- How the lexer's tables are searched, and how long what it finds is. Only private clauses say this.
use Rattle.std.specs.Prelude.{◌≡◌, ℕ, ◌<◌, ◌≤◌, Bool, List, Option, length, map, option_map}
use Rattle.std.specs.Borrow.{Bor}
use Rattle.std.specs.List.{find}
use Rattle.filterlang.specs.Types.{Front, Kind}
use Rattle.filterlang.specs.Types.fronts
use Rattle.filterlang.specs.Words.{Entry}

-- a table as the code has it
abbrev pub entries_of : List (Bor (List ℕ) × Kind) → List Entry
entries_of table = map (λ entry. (entry.0.now, entry.1)) table

-- the first entry of a table whose spelling passes a test
abbrev pub first_of : (List ℕ → Bool) → List (Bor (List ℕ) × Kind) → Option (Kind × ℕ)
first_of test table = option_map (λ e. (e.1, length e.0.now)) (find (λ e. test e.0.now) table)

-- a number of bytes of a text, one at least
abbrev pub IsLengthWithin : ℕ → ℕ → Type 0
IsLengthWithin n bytes = (0 < n) × (n ≤ bytes)

-- what this many bytes of a text begin with lies within them
abbrev pub IsWithin : Front → ℕ → Type 0
IsWithin fronts.End bytes = bytes ≡ 0
IsWithin fronts.Blank bytes = 0 < bytes
IsWithin (fronts.Token kind n) bytes = IsLengthWithin n bytes
IsWithin (fronts.Stuck cause) bytes = 0 < bytes
