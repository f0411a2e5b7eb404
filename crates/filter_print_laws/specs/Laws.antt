-- The law of canonical texts.
use Rattle.std.specs.Prelude.{◌≡◌, ℕ, List}
use Rattle.filter_tree.specs.Trees.{Tree}
use Rattle.filterlang.specs.Texts.{ReadsAs}
use Rattle.filter_print.specs.Canonical.{canonical}

-- A tree that some text reads as is what its canonical text reads as.
abbrev pub IsReadAgain : Type 0
IsReadAgain = (text : List ℕ) (tree : Tree) → ReadsAs text tree → ReadsAs (canonical tree) tree

-- And its canonical text reads as no other.
abbrev pub IsReadAsNoOther : Type 0
IsReadAsNoOther = (text : List ℕ) (tree other : Tree) → ReadsAs text tree → ReadsAs (canonical tree) other → other ≡ tree
