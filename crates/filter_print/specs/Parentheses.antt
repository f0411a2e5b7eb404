-- Where parentheses stand, and how deep they and the other signs lie within one another.
use Rattle.std.specs.Prelude.{ℕ, zero, suc, Bool, true, false, not, ◌&&◌, ◌==◌, nat_lt, nat_le, if◌then◌else◌, List, [], ◌++◌, codes, Option, Some, None}
use Rattle.filter_tree.specs.Trees.{Amount, number, wire_length, minus, binary, accessor, Tree, everything, test, relation, negation, both, either}
use Rattle.filterlang.specs.Operators.{precedence_of}
use Rattle.filter_print.specs.Types.{Parentheses, All, Needed, Operator, Joint, And, Or}

-- the value has an operator between two others
abbrev pub is_binary : Amount → Bool
is_binary (binary operator v w) = true
is_binary _ = false

-- the left side of an operator, from where operators of one precedence go on without
abbrev pub left_enclosed : Parentheses → Operator → Amount → Bool
left_enclosed All operator (binary inner v w) = not (precedence_of inner == precedence_of operator)
left_enclosed Needed operator (binary inner v w) = nat_lt (precedence_of operator) (precedence_of inner)
left_enclosed parentheses operator v = false

-- the right side of an operator
abbrev pub right_enclosed : Parentheses → Operator → Amount → Bool
right_enclosed All operator v = is_binary v
right_enclosed Needed operator (binary inner v w) = nat_le (precedence_of operator) (precedence_of inner)
right_enclosed Needed operator v = false

-- a side of a comparison
abbrev pub side_enclosed : Parentheses → Amount → Bool
side_enclosed All v = is_binary v
side_enclosed Needed v = false

-- two expressions and `and` or `or` between them
abbrev pub is_joined : Tree → Bool
is_joined (both t u) = true
is_joined (either t u) = true
is_joined _ = false

-- what stands to the left of `and` or `or`, from where the same word goes on without
abbrev pub first_enclosed : Parentheses → Joint → Tree → Bool
first_enclosed All And (either t u) = true
first_enclosed All Or (both t u) = true
first_enclosed parentheses joint t = false

-- what follows `not`
abbrev pub negated_enclosed : Parentheses → Tree → Bool
negated_enclosed All (relation comparison v w) = true
negated_enclosed parentheses t = is_joined t

-- the parenthesis before a text that is enclosed, and the one after it
abbrev pub opened : Bool → List ℕ
opened is = if is then codes "(" else []

abbrev pub closed : Bool → List ℕ
closed is = if is then codes ")" else []

abbrev pub enclosed : Bool → List ℕ → List ℕ
enclosed is text = opened is ++ (text ++ closed is)

-- what stands between two texts, each enclosed or not
unfoldable pub between : Bool → List ℕ → Bool → List ℕ
between left sign right = closed left ++ (sign ++ opened right)

-- two texts, each enclosed or not, with a sign between them
abbrev pub joined : Bool → List ℕ → List ℕ → Bool → List ℕ → List ℕ
joined left first sign right second = opened left ++ (first ++ (between left sign right ++ (second ++ closed right)))

-- how many more signs may be open inside, be it in parentheses or not; nothing if parentheses may not open
abbrev pub behind : Bool → ℕ → Option ℕ
behind false levels = Some levels
behind true zero = None
behind true (suc levels) = Some levels

-- what stands there has no more of them
abbrev pub fits_behind : (ℕ → Bool) → Option ℕ → Bool
fits_behind fits None = false
fits_behind fits (Some levels) = fits levels

-- the signs of a value nest at most this deep
unfoldable pub value_fits : Parentheses → Amount → ℕ → Bool
value_fits parentheses (number n) levels = true
value_fits parentheses wire_length levels = true
value_fits parentheses (minus v) levels =
    fits_behind (λ inner. fits_behind (value_fits parentheses v) (behind (is_binary v) inner)) (behind true levels)
value_fits parentheses (binary operator v w) levels =
    fits_behind (value_fits parentheses v) (behind (left_enclosed parentheses operator v) levels)
    && fits_behind (value_fits parentheses w) (behind (right_enclosed parentheses operator w) levels)
value_fits parentheses (accessor layer v size) levels = fits_behind (value_fits parentheses v) (behind true levels)

-- the same of a tree
unfoldable pub fits : Parentheses → Tree → ℕ → Bool
fits parentheses everything levels = true
fits parentheses (test primitive) levels = true
fits parentheses (relation comparison v w) levels =
    fits_behind (value_fits parentheses v) (behind (side_enclosed parentheses v) levels)
    && fits_behind (value_fits parentheses w) (behind (side_enclosed parentheses w) levels)
fits parentheses (negation t) levels =
    fits_behind (λ inner. fits_behind (fits parentheses t) (behind (negated_enclosed parentheses t) inner)) (behind true levels)
fits parentheses (both t u) levels =
    fits_behind (fits parentheses t) (behind (first_enclosed parentheses And t) levels)
    && fits_behind (fits parentheses u) (behind (is_joined u) levels)
fits parentheses (either t u) levels =
    fits_behind (fits parentheses t) (behind (first_enclosed parentheses Or t) levels)
    && fits_behind (fits parentheses u) (behind (is_joined u) levels)
