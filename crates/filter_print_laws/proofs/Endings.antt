-- What may come after a canonical text, and what it is spelled as before that.
use Rattle.std.proofs.Common.{ℕ, List, [], ◌∷◌, ◌++◌}
use Rattle.filterlang.specs.declared.token.Kind.{Kind}
use Rattle.filter_print_laws.proofs.Runs.{Follows, follows_end, follows_blank, follows_close}
use Rattle.filter_print_laws.proofs.Spelled.{Spelled}
use Rattle.filter_print_laws.proofs.Sequences.{Before}

-- What may come after a tree's text: nothing, a space or a `)`.
pub data Ends : List ℕ → Type 0 where
  ends_end : Ends []
  ends_blank : {rest : List ℕ} → Ends (32 ∷ rest)
  ends_close : {rest : List ℕ} → Ends (41 ∷ rest)

-- each of them may come after a number
pub ends_follow : {rest : List ℕ} → Ends rest → Follows rest
ends_follow ends_end = follows_end
ends_follow ends_blank = follows_blank
ends_follow ends_close = follows_close

-- a text is spelled as these tokens, before what may come after it
abbrev pub Spells : List ℕ → Before → (List ℕ → Type 0) → Type 0
Spells text tokens Behind = (rest : List ℕ) (ks : List Kind) → Behind rest → Spelled rest ks → Spelled (text ++ rest) (tokens ks)
