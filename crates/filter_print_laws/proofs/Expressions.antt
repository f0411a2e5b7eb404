-- The tokens of a tree's canonical text are read as it.
use Rattle.std.proofs.Common.{◌≡◌, ℕ, zero, suc, Bool, true, false, List, ◌∷◌, None, refl, ap, ◌∙◌}
use Rattle.filterlang.specs.declared.token.Kind.{Kind}
use Rattle.filterlang.specs.declared.token.Kind.TheVariants as kind
use Rattle.filterlang.specs.declared.token.Joint.TheVariants.{And, Or}
use Rattle.filter_tree.specs.Trees.{Tree, everything, test, relation, negation, both, either}
use Rattle.filterlang.specs.Grammar.{operator_follows, after_matching, Expression, expr_one, expr_and, expr_or, Term, term_not, term_open, term_prim, term_relation}
use Rattle.filter_print_laws.proofs.Basics.{both_true}
use Rattle.filter_print.specs.Parentheses.{side_enclosed, is_joined, first_enclosed, negated_enclosed, behind, fits_behind, value_fits, fits}
use Rattle.filter_print_laws.proofs.Sequences.{Parentheses, Before, within, value_tokens, tree_tokens}
use Rattle.filter_print_laws.proofs.Arithmetic.{IsValue, Suits, level_most, value_within, values_read, side_matched, relation_begins}
use Rattle.filter_print_laws.proofs.Terms.{IsPrimitive, Stops, stops_close, stops_joint, Nearest}
use Rattle.filter_print_laws.proofs.Primitives.{primitive_read}
use Rattle.filter_print_laws.proofs.Apart.{stops_no_operator, primitive_apart, primitive_matched}

-- its primitives and values are such as tokens are read as
abbrev pub IsTree : Tree → Type 0
IsTree everything = ⊥
IsTree (test p) = IsPrimitive p
IsTree (relation c v w) = IsValue v × IsValue w
IsTree (negation t) = IsTree t
IsTree (both t u) = IsTree t × IsTree u
IsTree (either t u) = IsTree t × IsTree u

-- parentheses that are open are closed within a tree
within_matched : (is : Bool) (inner : Before) → ((e : ℕ) (ks : List Kind) → after_matching e (inner ks) ≡ after_matching e ks) → (d : ℕ) (ks : List Kind) → after_matching d (within is inner ks) ≡ after_matching d ks
within_matched true inner h d ks = h (suc d) (kind.Close ∷ ks)
within_matched false inner h d ks = h d ks

-- each tree
tree_matched : (chosen : Parentheses) (t : Tree) (d : ℕ) (ks : List Kind) → after_matching d (tree_tokens chosen t ks) ≡ after_matching d ks
tree_matched chosen everything d ks = refl
tree_matched chosen (test p) d ks = primitive_matched p d ks
tree_matched chosen (relation c v w) d ks =
    side_matched (side_enclosed chosen v) chosen v d (kind.Comparison c ∷ within (side_enclosed chosen w) (value_tokens chosen w) ks)
    ∙ side_matched (side_enclosed chosen w) chosen w d ks
tree_matched chosen (negation t) d ks = within_matched (negated_enclosed chosen t) (tree_tokens chosen t) (λ e ls. tree_matched chosen t e ls) d ks
tree_matched chosen (both t u) d ks =
    within_matched (first_enclosed chosen And t) (tree_tokens chosen t) (λ e ls. tree_matched chosen t e ls) d (kind.Joint And ∷ within (is_joined u) (tree_tokens chosen u) ks)
    ∙ within_matched (is_joined u) (tree_tokens chosen u) (λ e ls. tree_matched chosen u e ls) d ks
tree_matched chosen (either t u) d ks =
    within_matched (first_enclosed chosen Or t) (tree_tokens chosen t) (λ e ls. tree_matched chosen t e ls) d (kind.Joint Or ∷ within (is_joined u) (tree_tokens chosen u) ks)
    ∙ within_matched (is_joined u) (tree_tokens chosen u) (λ e ls. tree_matched chosen u e ls) d ks

-- what is read of tokens, as an expression and as a term
abbrev pub IsExpression : ℕ → Nearest → List Kind → Tree → List Kind → Type 0
IsExpression n q ts t rest = (r : Nearest) × Expression n q ts t r rest

-- as a term
abbrev pub IsTerm : ℕ → Nearest → List Kind → Tree → List Kind → Type 0
IsTerm n q ts t rest = (r : Nearest) × Term n q ts t r rest

-- a tree is read from its tokens, and as a term where nothing is joined in it
abbrev pub IsTreeRead : Parentheses → ℕ → Tree → Type 0
IsTreeRead chosen n t =
    ((q : Nearest) (ks : List Kind) → Stops ks → IsExpression n q (tree_tokens chosen t ks) t ks)
    × (is_joined t ≡ false → (q : Nearest) (ks : List Kind) → Stops ks → IsTerm n q (tree_tokens chosen t ks) t ks)

-- a term is an expression
as_term : (chosen : Parentheses) (n : ℕ) (t : Tree) → ((q : Nearest) (ks : List Kind) → Stops ks → IsTerm n q (tree_tokens chosen t ks) t ks) → IsTreeRead chosen n t
as_term chosen n t h = (λ q ks s. let found = h q ks s in (found.0, expr_one found.1), λ e. h)

-- expressions that are joined are no term
as_joined : (chosen : Parentheses) (n : ℕ) (t : Tree) → is_joined t ≡ true → ((q : Nearest) (ks : List Kind) → Stops ks → IsExpression n q (tree_tokens chosen t ks) t ks) → IsTreeRead chosen n t
as_joined chosen n t is h = (h, λ e. absurd cc)

-- what stands in parentheses is a term
opened_term : (chosen : Parentheses) (n : ℕ) (t : Tree) → IsTreeRead chosen n t → (q : Nearest) (ks : List Kind) → Stops ks → IsTerm (suc n) q (kind.Open ∷ tree_tokens chosen t (kind.Close ∷ ks)) t ks
opened_term chosen n t h q ks s =
    let found = h.0 q (kind.Close ∷ ks) stops_close in
    (found.0, term_open (ap operator_follows (tree_matched chosen t 0 (kind.Close ∷ ks)) ∙ stops_no_operator ks s) found.1)

-- a term, in parentheses or where nothing is joined
term_within : (is : Bool) (chosen : Parentheses) (t : Tree) (n : ℕ) → fits_behind (fits chosen t) (behind is n) ≡ true → (is ≡ false → is_joined t ≡ false) → ((m : ℕ) → fits chosen t m ≡ true → IsTreeRead chosen m t) → (q : Nearest) (ks : List Kind) → Stops ks → IsTerm n q (within is (tree_tokens chosen t) ks) t ks
term_within true chosen t zero f bare read q ks s = absurd cc
term_within true chosen t (suc m) f bare read q ks s = opened_term chosen m t (read m f) q ks s
term_within false chosen t n f bare read q ks s = (read n f).1 (bare refl) q ks s

-- what stands on the left of `and` or `or`
first_within : (is : Bool) (chosen : Parentheses) (t : Tree) (n : ℕ) → fits_behind (fits chosen t) (behind is n) ≡ true → ((m : ℕ) → fits chosen t m ≡ true → IsTreeRead chosen m t) → (q : Nearest) (ks : List Kind) → Stops ks → IsExpression n q (within is (tree_tokens chosen t) ks) t ks
first_within true chosen t zero f read q ks s = absurd cc
first_within true chosen t (suc m) f read q ks s = let found = opened_term chosen m t (read m f) q ks s in (found.0, expr_one found.1)
first_within false chosen t n f read q ks s = (read n f).0 q ks s

-- each tree is
pub trees_read : (chosen : Parentheses) → Suits chosen → (t : Tree) → IsTree t → (n : ℕ) → fits chosen t n ≡ true → IsTreeRead chosen n t
unfolding fits
trees_read chosen suits everything is n f = absurd is
trees_read chosen suits (test p) is n f =
    as_term chosen n (test p) (λ q ks s. let found = primitive_read q p ks is s in (found.0, term_prim (primitive_apart p ks s) found.1))
trees_read chosen suits (relation c v w) is n f =
    let both = both_true (fits_behind (value_fits chosen v) (behind (side_enclosed chosen v) n)) (fits_behind (value_fits chosen w) (behind (side_enclosed chosen w) n)) f in
    as_term chosen n (relation c v w) (λ q ks s.
    let more : List Kind = kind.Comparison c ∷ within (side_enclosed chosen w) (value_tokens chosen w) ks in (
      None,
      term_relation (relation_begins (side_enclosed chosen v) chosen v more refl)
          (value_within (side_enclosed chosen v) chosen v n 6 both.0 (λ e. level_most v) (λ m g. values_read chosen suits v is.0 m g) more)
          (value_within (side_enclosed chosen w) chosen w n 6 both.1 (λ e. level_most w) (λ m g. values_read chosen suits w is.1 m g) ks),
    ))
trees_read chosen suits (negation t) is zero f = absurd cc
trees_read chosen suits (negation t) is (suc n) f =
    as_term chosen (suc n) (negation t) (λ q ks s.
    let found = term_within (negated_enclosed chosen t) chosen t n f (suits.behind_not t) (λ m g. trees_read chosen suits t is m g) q ks s in
    (found.0, term_not found.1))
trees_read chosen suits (both t u) is n f =
    let each = both_true (fits_behind (fits chosen t) (behind (first_enclosed chosen And t) n)) (fits_behind (fits chosen u) (behind (is_joined u) n)) f in
    as_joined chosen n (both t u) refl (λ q ks s.
    let left = first_within (first_enclosed chosen And t) chosen t n each.0 (λ m g. trees_read chosen suits t is.0 m g) q (kind.Joint And ∷ within (is_joined u) (tree_tokens chosen u) ks) stops_joint in
    let right = term_within (is_joined u) chosen u n each.1 (λ e. e) (λ m g. trees_read chosen suits u is.1 m g) left.0 ks s in
    (right.0, expr_and left.1 right.1))
trees_read chosen suits (either t u) is n f =
    let each = both_true (fits_behind (fits chosen t) (behind (first_enclosed chosen Or t) n)) (fits_behind (fits chosen u) (behind (is_joined u) n)) f in
    as_joined chosen n (either t u) refl (λ q ks s.
    let left = first_within (first_enclosed chosen Or t) chosen t n each.0 (λ m g. trees_read chosen suits t is.0 m g) q (kind.Joint Or ∷ within (is_joined u) (tree_tokens chosen u) ks) stops_joint in
    let right = term_within (is_joined u) chosen u n each.1 (λ e. e) (λ m g. trees_read chosen suits u is.1 m g) left.0 ks s in
    (right.0, expr_or left.1 right.1))
