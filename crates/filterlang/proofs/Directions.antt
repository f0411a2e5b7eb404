-- A direction is its first word and what makes it longer.
use Rattle.std.proofs.Common.{◌≡◌, List, ◌∷◌, Option, Some, None, refl, sym, ap, ◌∙◌}
use Rattle.filterlang.specs.declared.token.Kind.{Kind}
use Rattle.filterlang.specs.declared.token.Kind.TheVariants as kind
use Rattle.filterlang.specs.declared.token.Joint.{Joint}
use Rattle.filterlang.specs.declared.token.Side.{Side}
use Rattle.filter_tree.specs.declared.tree.Direction.{Direction}
use Rattle.filterlang.specs.Phrases.{joined, longest, one_side, direction_at}
use Rattle.filterlang.specs.Readers.{◌>>=◌}
use Rattle.filterlang.specs.Reading.{side_at, joined_at}

-- the three words that were found, or the first alone
abbrev longer : Side → List Kind → Option (Direction × List Kind) → Option Direction × List Kind
longer first rest (Some d) = (Some d.0, d.1)
longer first rest None = (Some (one_side first), rest)

-- the choice is the same
chosen : (o : Option Direction) (first : Side) (joint : Joint) (second : Side) (rest : List Kind) →
    longest o first (kind.Joint joint ∷ kind.Side second ∷ rest) rest ≡ longer first (kind.Joint joint ∷ kind.Side second ∷ rest) (o >>= λ d. Some (d, rest))
chosen None first joint second rest = refl
chosen (Some d) first joint second rest = refl

-- after the first word: three words where they are one, else the first alone
direction_joined : (first : Side) (rest : List Kind) → direction_at (kind.Side first ∷ rest) ≡ longer first rest (joined_at first rest)
direction_joined first (kind.Joint joint ∷ kind.Side second ∷ rest) = chosen (joined first joint second) first joint second rest
direction_joined first (kind.Joint joint ∷ rest) = refl
direction_joined first rest = refl

-- the direction of the first word that was found, or none
abbrev pub begun : List Kind → Option (Side × List Kind) → Option Direction × List Kind
begun tokens None = (None, tokens)
begun tokens (Some first) = longer first.0 first.1 (joined_at first.0 first.1)

-- the direction at the front, as the code finds it, word by word
direction_by_words : (tokens : List Kind) → direction_at tokens ≡ begun tokens (side_at tokens)
direction_by_words (kind.Side first ∷ rest) = direction_joined first rest
direction_by_words tokens = refl

-- no word, no direction
pub no_word : (tokens : List Kind) → None ≡ side_at tokens → (None, tokens) ≡ direction_at tokens
no_word tokens none = sym (direction_by_words tokens ∙ ap (begun tokens) (sym none))

-- a first word that nothing goes on with
pub one_word : (tokens rest : List Kind) (first : Side) → Some (first, rest) ≡ side_at tokens → None ≡ joined_at first rest → (Some (one_side first), rest) ≡ direction_at tokens
one_word tokens rest first word none = sym (direction_by_words tokens ∙ ap (begun tokens) (sym word) ∙ ap (longer first rest) (sym none))

-- a first word, and what goes on with it
pub two_words : (tokens rest later : List Kind) (first : Side) (direction : Direction) → Some (first, rest) ≡ side_at tokens → Some (direction, later) ≡ joined_at first rest → (Some direction, later) ≡ direction_at tokens
two_words tokens rest later first direction word more = sym (direction_by_words tokens ∙ ap (begun tokens) (sym word) ∙ ap (longer first rest) (sym more))
