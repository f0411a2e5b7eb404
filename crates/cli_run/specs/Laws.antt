-- Laws of the file LISTENERS.
use Rattle.std.specs.Prelude.{◌≡◌, ℕ, List}
use Rattle.cli_run.specs.declared.plan.RunLine.{RunLine}
use Rattle.cli_run.specs.Listeners.{AreRunLines, IsFirstBadRunLine}

-- a file whose lines all have their form, each with an OUT of its own, has no bad line
abbrev pub NoneIsBad : Type 0
NoneIsBad = (interfaces : ℕ) (text : List ℕ) (asked : List RunLine) (n : ℕ) → AreRunLines interfaces text asked → IsFirstBadRunLine interfaces text n → ⊥

-- a file has one first bad line
abbrev pub FirstBadIsOne : Type 0
FirstBadIsOne = (interfaces : ℕ) (text : List ℕ) (n m : ℕ) → IsFirstBadRunLine interfaces text n → IsFirstBadRunLine interfaces text m → n ≡ m
