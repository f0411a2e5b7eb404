-- Filter expressions as texts: which tree one reads as, and why one is refused.
use Rattle.std.specs.Prelude.{◌≤◌, ℕ, Bool, true, false, List, length}
use Rattle.filterlang.specs.Types.{Fault, Token, MAX_TEXT}
use Rattle.filterlang.specs.Types.faults
use Rattle.filterlang.specs.Tokens.{Lexes, IsFaultOf}
use Rattle.filterlang.specs.Phrases.{kinds}
use Rattle.filter_tree.specs.Trees.{Tree}
use Rattle.filterlang.specs.Grammar.{Reads}

-- a text reads as a tree where its tokens do
abbrev pub ReadsAs : List ℕ → Tree → Type 0
ReadsAs text tree = (tokens : List Token) × Lexes text 0 tokens × Reads (kinds tokens) tree

-- a text that is not too long, whose tokens no tree reads
abbrev pub HasNoTree : List ℕ → Type 0
HasNoTree text = (length text ≤ MAX_TEXT) × ((tokens : List Token) × Lexes text 0 tokens) × ((tree : Tree) → ReadsAs text tree → ⊥)

-- the faults of texts that have tokens, but no tree
abbrev pub is_misreading : Fault → Bool
is_misreading (faults.Syntax place) = true
is_misreading (faults.NoQualifier place) = true
is_misreading (faults.BadQualifier place) = true
is_misreading (faults.BadIdentifier place) = true
is_misreading (faults.NetBits place) = true
is_misreading (faults.OutOfRange place) = true
is_misreading (faults.DivideByZero place) = true
is_misreading (faults.TooNested place) = true
is_misreading _ = false

-- Why a text is refused: no tree reads its tokens; or it has none, as the lexer's fault says.
abbrev pub IsRefusalOf : List ℕ → Fault → Type 0
IsRefusalOf text fault = elim (is_misreading fault) [ true ↦ HasNoTree text | false ↦ IsFaultOf text fault ]
