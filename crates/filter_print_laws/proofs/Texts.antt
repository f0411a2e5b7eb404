-- The canonical text of a tree is spelled as its tokens.
use Rattle.std.proofs.Common.{◌≡◌, ℕ, Bool, true, false, List, [], ◌∷◌, ◌++◌, refl, sym, ap, ◌∙◌, subst, append_assoc}
use Rattle.std.specs.Prelude.{codes}
use Rattle.filterlang.specs.declared.token.Kind.{Kind}
use Rattle.filterlang.specs.declared.token.Kind.TheVariants as kind
use Rattle.filterlang.specs.declared.token.Joint.TheVariants.{And, Or}
use Rattle.filter_tree.specs.declared.tree.Comparison.{Comparison}
use Rattle.filter_tree.specs.declared.tree.Comparison.TheVariants as comparison
use Rattle.filter_tree.specs.declared.tree.Operator.{Operator}
use Rattle.filter_tree.specs.declared.tree.Operator.TheVariants as operator
use Rattle.filter_tree.specs.declared.tree.Layer.{Layer}
use Rattle.filter_tree.specs.declared.tree.Layer.TheVariants as layers
use Rattle.filter_tree.specs.declared.tree.Size.{Size}
use Rattle.filter_tree.specs.declared.tree.Size.TheVariants as sizes
use Rattle.filter_tree.specs.Trees.{Amount, number, wire_length, minus, binary, accessor, Tree, everything, test, relation, negation, both, either}
use Rattle.filterlang.specs.Words.{words, names, signs}
use Rattle.filterlang.specs.Numbers.{number_or_dotted_at, ethernet_at}
use Rattle.filterlang.specs.Tokens.{token_at, front}
use Rattle.filter_print.specs.Parentheses.{is_binary, left_enclosed, right_enclosed, side_enclosed, is_joined, first_enclosed, negated_enclosed, opened, closed, enclosed, between, joined}
use Rattle.filter_print.specs.Canonical.{operator_text, comparison_text, layer_text, size_text, value_text, tree_text}
use Rattle.filter_print_laws.proofs.Spelled.{Spelled, spelled_blank, spelled_token}
use Rattle.filter_print_laws.proofs.Numbers.{number_spelled}
use Rattle.filter_print_laws.proofs.Runs.{Follows, follows_end, follows_blank, follows_close, follows_minus, follows_slash, follows_bracket, follows_two, follows_four}
use Rattle.filter_print_laws.proofs.Endings.{Ends, ends_blank, ends_close, ends_follow, Spells}
use Rattle.filter_print_laws.proofs.Sequences.{Parentheses, Before, within, layer_word, size_tokens, value_tokens, tree_tokens}
use Rattle.filter_print_laws.proofs.Arithmetic.{IsValue}
use Rattle.filter_print_laws.proofs.Expressions.{IsTree}
use Rattle.filter_print_laws.proofs.Words.{primitive_spelled}

-- a sign, and what follows it
open_sign : (rest : List ℕ) (ks : List Kind) → Spelled rest ks → Spelled (40 ∷ rest) (kind.Open ∷ ks)
unfolding front token_at ethernet_at number_or_dotted_at words names signs
open_sign rest ks s = spelled_token {n = 1} refl s

-- the `)` that closes it
close_sign : (rest : List ℕ) (ks : List Kind) → Spelled rest ks → Spelled (41 ∷ rest) (kind.Close ∷ ks)
unfolding front token_at ethernet_at number_or_dotted_at words names signs
close_sign rest ks s = spelled_token {n = 1} refl s

-- the `-` before a value
minus_sign : (rest : List ℕ) (ks : List Kind) → Spelled rest ks → Spelled (45 ∷ rest) (kind.Operator operator.Minus ∷ ks)
unfolding front token_at ethernet_at number_or_dotted_at words names signs
minus_sign rest ks s = spelled_token {n = 1} refl s

-- an operator or a comparison, with a space on both sides
operator_sign : (op : Operator) (rest : List ℕ) (ks : List Kind) → Spelled rest ks → Spelled (operator_text op ++ rest) (kind.Operator op ∷ ks)
unfolding front token_at ethernet_at number_or_dotted_at words names signs
operator_sign operator.Plus rest ks s = spelled_blank (spelled_token {n = 1} refl (spelled_blank s))
operator_sign operator.Minus rest ks s = spelled_blank (spelled_token {n = 1} refl (spelled_blank s))
operator_sign operator.Times rest ks s = spelled_blank (spelled_token {n = 1} refl (spelled_blank s))
operator_sign operator.Divide rest ks s = spelled_blank (spelled_token {n = 1} refl (spelled_blank s))
operator_sign operator.Modulo rest ks s = spelled_blank (spelled_token {n = 1} refl (spelled_blank s))
operator_sign operator.BitAnd rest ks s = spelled_blank (spelled_token {n = 1} refl (spelled_blank s))
operator_sign operator.BitXor rest ks s = spelled_blank (spelled_token {n = 1} refl (spelled_blank s))
operator_sign operator.BitOr rest ks s = spelled_blank (spelled_token {n = 1} refl (spelled_blank s))
operator_sign operator.ShiftLeft rest ks s = spelled_blank (spelled_token {n = 2} refl (spelled_blank s))
operator_sign operator.ShiftRight rest ks s = spelled_blank (spelled_token {n = 2} refl (spelled_blank s))

-- the same of a comparison
comparison_sign : (c : Comparison) (rest : List ℕ) (ks : List Kind) → Spelled rest ks → Spelled (comparison_text c ++ rest) (kind.Comparison c ∷ ks)
unfolding front token_at ethernet_at number_or_dotted_at words names signs
comparison_sign comparison.Equal rest ks s = spelled_blank (spelled_token {n = 1} refl (spelled_blank s))
comparison_sign comparison.NotEqual rest ks s = spelled_blank (spelled_token {n = 2} refl (spelled_blank s))
comparison_sign comparison.Less rest ks s = spelled_blank (spelled_token {n = 1} refl (spelled_blank s))
comparison_sign comparison.Greater rest ks s = spelled_blank (spelled_token {n = 1} refl (spelled_blank s))
comparison_sign comparison.LessOrEqual rest ks s = spelled_blank (spelled_token {n = 2} refl (spelled_blank s))
comparison_sign comparison.GreaterOrEqual rest ks s = spelled_blank (spelled_token {n = 2} refl (spelled_blank s))

-- of `and`
and_sign : (rest : List ℕ) (ks : List Kind) → Spelled rest ks → Spelled (codes " and " ++ rest) (kind.Joint And ∷ ks)
unfolding front token_at ethernet_at number_or_dotted_at words names signs
and_sign rest ks s = spelled_blank (spelled_token {n = 3} refl (spelled_blank s))

-- of `or`
or_sign : (rest : List ℕ) (ks : List Kind) → Spelled rest ks → Spelled (codes " or " ++ rest) (kind.Joint Or ∷ ks)
unfolding front token_at ethernet_at number_or_dotted_at words names signs
or_sign rest ks s = spelled_blank (spelled_token {n = 2} refl (spelled_blank s))

-- and `not`
not_word : (rest : List ℕ) (ks : List Kind) → Spelled rest ks → Spelled (codes "not " ++ rest) (kind.Not ∷ ks)
unfolding front token_at ethernet_at number_or_dotted_at words names signs
not_word rest ks s = spelled_token {n = 3} refl (spelled_blank s)

-- the length, before what may come after it
length_word : Spells (codes "len") (λ ks. kind.Len ∷ ks) Follows
unfolding front token_at ethernet_at number_or_dotted_at words names signs
length_word rest ks follows_end s = spelled_token {n = 3} refl s
length_word rest ks follows_blank s = spelled_token {n = 3} refl s
length_word rest ks follows_close s = spelled_token {n = 3} refl s
length_word rest ks follows_minus s = spelled_token {n = 3} refl s
length_word rest ks follows_slash s = spelled_token {n = 3} refl s
length_word rest ks follows_bracket s = spelled_token {n = 3} refl s
length_word rest ks follows_two s = spelled_token {n = 3} refl s
length_word rest ks follows_four s = spelled_token {n = 3} refl s

-- a layer and its bracket
layer_spelled : (layer : Layer) (rest : List ℕ) (ks : List Kind) → Spelled rest ks → Spelled (layer_text layer ++ rest) (kind.Protocol (layer_word layer) ∷ kind.OpenBracket ∷ ks)
unfolding front token_at ethernet_at number_or_dotted_at words names signs
layer_spelled layers.Ether rest ks s = spelled_token {n = 5} refl (spelled_token {n = 1} refl s)
layer_spelled layers.Ip rest ks s = spelled_token {n = 2} refl (spelled_token {n = 1} refl s)
layer_spelled layers.Arp rest ks s = spelled_token {n = 3} refl (spelled_token {n = 1} refl s)
layer_spelled layers.Rarp rest ks s = spelled_token {n = 4} refl (spelled_token {n = 1} refl s)
layer_spelled layers.Tcp rest ks s = spelled_token {n = 3} refl (spelled_token {n = 1} refl s)
layer_spelled layers.Udp rest ks s = spelled_token {n = 3} refl (spelled_token {n = 1} refl s)
layer_spelled layers.Icmp rest ks s = spelled_token {n = 4} refl (spelled_token {n = 1} refl s)

-- a size and its bracket
size_spelled : (size : Size) (rest : List ℕ) (ks : List Kind) → Spelled rest ks → Spelled (size_text size ++ rest) (size_tokens size ks)
unfolding front token_at ethernet_at number_or_dotted_at words names signs
size_spelled sizes.One rest ks s = spelled_token {n = 1} refl s
size_spelled sizes.Two rest ks s = spelled_token {n = 1} refl (spelled_token {n = 1} refl (spelled_token {n = 1} refl s))
size_spelled sizes.Four rest ks s = spelled_token {n = 1} refl (spelled_token {n = 1} refl (spelled_token {n = 1} refl s))

-- a number may stand before it
size_follows : (size : Size) (rest : List ℕ) → Follows (size_text size ++ rest)
size_follows sizes.One rest = follows_bracket
size_follows sizes.Two rest = follows_two
size_follows sizes.Four rest = follows_four

-- two texts with a sign between them, by the parentheses of each
joined_is : (left : Bool) (first sign : List ℕ) (right : Bool) (second : List ℕ) → joined left first sign right second ≡ enclosed left first ++ (sign ++ enclosed right second)
unfolding between
joined_is left first sign right second =
    let behind : List ℕ = second ++ closed right in
    ap (λ x. opened left ++ (first ++ x)) (append_assoc (closed left) (sign ++ opened right) behind ∙ ap (λ x. closed left ++ x) (append_assoc sign (opened right) behind))
    ∙ sym (append_assoc (opened left) (first ++ closed left) (sign ++ enclosed right second) ∙ ap (λ x. opened left ++ x) (append_assoc first (closed left) (sign ++ enclosed right second)))

-- what may come after a text may be a `)`
abbrev MayClose : (List ℕ → Type 0) → Type 0
MayClose Behind = (rest : List ℕ) → Behind (41 ∷ rest)

-- a text in parentheses, or without
enclosed_spells : (text : List ℕ) (tokens : Before) (Behind : List ℕ → Type 0) → MayClose Behind → Spells text tokens Behind → (is : Bool) → Spells (enclosed is text) (within is tokens) Behind
enclosed_spells text tokens Behind may h true rest ks b s =
    subst (λ x. Spelled (40 ∷ x) (kind.Open ∷ tokens (kind.Close ∷ ks))) (sym (append_assoc text (41 ∷ []) rest))
    (open_sign (text ++ (41 ∷ rest)) (tokens (kind.Close ∷ ks)) (h (41 ∷ rest) (kind.Close ∷ ks) (may rest) (close_sign rest ks s)))
enclosed_spells text tokens Behind may h false rest ks b s = subst (λ x. Spelled x (tokens ks)) (sym (append_assoc text [] rest)) (h rest ks b s)

-- two of them with a sign between them
joined_spells : (first second sign : List ℕ) (tokens others : Before) (k : Kind) (Behind : List ℕ → Type 0) → MayClose Behind → ((rest : List ℕ) → Behind (sign ++ rest)) → ((rest : List ℕ) (ks : List Kind) → Spelled rest ks → Spelled (sign ++ rest) (k ∷ ks)) → Spells first tokens Behind → Spells second others Behind → (left right : Bool) → Spells (joined left first sign right second) (λ ks. within left tokens (k ∷ within right others ks)) Behind
joined_spells first second sign tokens others k Behind may before signed h g left right rest ks b s =
    let whole = within left tokens (k ∷ within right others ks) in
    subst (λ x. Spelled (x ++ rest) whole) (sym (joined_is left first sign right second))
    (subst (λ x. Spelled x whole) (sym (append_assoc (enclosed left first) (sign ++ enclosed right second) rest ∙ ap (λ x. enclosed left first ++ x) (append_assoc sign (enclosed right second) rest)))
    (enclosed_spells first tokens Behind may h left (sign ++ (enclosed right second ++ rest)) (k ∷ within right others ks) (before (enclosed right second ++ rest))
    (signed (enclosed right second ++ rest) (within right others ks) (enclosed_spells second others Behind may g right rest ks b s))))

-- an operator and a comparison begin with a space
operator_blank : (op : Operator) (rest : List ℕ) → Follows (operator_text op ++ rest)
operator_blank operator.Plus rest = follows_blank
operator_blank operator.Minus rest = follows_blank
operator_blank operator.Times rest = follows_blank
operator_blank operator.Divide rest = follows_blank
operator_blank operator.Modulo rest = follows_blank
operator_blank operator.BitAnd rest = follows_blank
operator_blank operator.BitXor rest = follows_blank
operator_blank operator.BitOr rest = follows_blank
operator_blank operator.ShiftLeft rest = follows_blank
operator_blank operator.ShiftRight rest = follows_blank

-- the same of a comparison
comparison_blank : (c : Comparison) (rest : List ℕ) → Follows (comparison_text c ++ rest)
comparison_blank comparison.Equal rest = follows_blank
comparison_blank comparison.NotEqual rest = follows_blank
comparison_blank comparison.Less rest = follows_blank
comparison_blank comparison.Greater rest = follows_blank
comparison_blank comparison.LessOrEqual rest = follows_blank
comparison_blank comparison.GreaterOrEqual rest = follows_blank

-- each value is spelled as its tokens
pub value_spells : (chosen : Parentheses) (v : Amount) → IsValue v → Spells (value_text chosen v) (value_tokens chosen v) Follows
unfolding value_text
value_spells chosen (number n) is rest ks f s = number_spelled n is rest ks f s
value_spells chosen wire_length is rest ks f s = length_word rest ks f s
value_spells chosen (minus v) is rest ks f s =
    minus_sign (enclosed (is_binary v) (value_text chosen v) ++ rest) (within (is_binary v) (value_tokens chosen v) ks)
    (enclosed_spells (value_text chosen v) (value_tokens chosen v) Follows (λ r. follows_close) (value_spells chosen v is) (is_binary v) rest ks f s)
value_spells chosen (binary op v w) is rest ks f s =
    joined_spells (value_text chosen v) (value_text chosen w) (operator_text op) (value_tokens chosen v) (value_tokens chosen w) (kind.Operator op) Follows (λ r. follows_close) (operator_blank op) (operator_sign op) (value_spells chosen v is.0) (value_spells chosen w is.1) (left_enclosed chosen op v) (right_enclosed chosen op w) rest ks f s
value_spells chosen (accessor layer v size) is rest ks f s =
    subst (λ x. Spelled x (kind.Protocol (layer_word layer) ∷ kind.OpenBracket ∷ value_tokens chosen v (size_tokens size ks)))
    (sym (append_assoc (layer_text layer ++ value_text chosen v) (size_text size) rest ∙ append_assoc (layer_text layer) (value_text chosen v) (size_text size ++ rest)))
    (layer_spelled layer (value_text chosen v ++ (size_text size ++ rest)) (value_tokens chosen v (size_tokens size ks))
    (value_spells chosen v is (size_text size ++ rest) (size_tokens size ks) (size_follows size rest) (size_spelled size rest ks s)))

-- and so is each tree
pub tree_spells : (chosen : Parentheses) (t : Tree) → IsTree t → Spells (tree_text chosen t) (tree_tokens chosen t) Ends
unfolding tree_text
tree_spells chosen everything is rest ks e s = absurd is
tree_spells chosen (test p) is rest ks e s = primitive_spelled p is rest ks e s
tree_spells chosen (relation c v w) is rest ks e s =
    joined_spells (value_text chosen v) (value_text chosen w) (comparison_text c) (value_tokens chosen v) (value_tokens chosen w) (kind.Comparison c) Follows (λ r. follows_close) (comparison_blank c) (comparison_sign c) (value_spells chosen v is.0) (value_spells chosen w is.1) (side_enclosed chosen v) (side_enclosed chosen w) rest ks (ends_follow e) s
tree_spells chosen (negation t) is rest ks e s =
    not_word (enclosed (negated_enclosed chosen t) (tree_text chosen t) ++ rest) (within (negated_enclosed chosen t) (tree_tokens chosen t) ks)
    (enclosed_spells (tree_text chosen t) (tree_tokens chosen t) Ends (λ r. ends_close) (tree_spells chosen t is) (negated_enclosed chosen t) rest ks e s)
tree_spells chosen (both t u) is rest ks e s =
    joined_spells (tree_text chosen t) (tree_text chosen u) (codes " and ") (tree_tokens chosen t) (tree_tokens chosen u) (kind.Joint And) Ends (λ r. ends_close) (λ r. ends_blank) and_sign (tree_spells chosen t is.0) (tree_spells chosen u is.1) (first_enclosed chosen And t) (is_joined u) rest ks e s
tree_spells chosen (either t u) is rest ks e s =
    joined_spells (tree_text chosen t) (tree_text chosen u) (codes " or ") (tree_tokens chosen t) (tree_tokens chosen u) (kind.Joint Or) Ends (λ r. ends_close) (λ r. ends_blank) or_sign (tree_spells chosen t is.0) (tree_spells chosen u is.1) (first_enclosed chosen Or t) (is_joined u) rest ks e s
