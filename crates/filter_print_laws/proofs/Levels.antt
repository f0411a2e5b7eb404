-- A tree that is read needs no more parentheses than its text has signs open within one another.
use Rattle.std.proofs.Common.{◌≡◌, ℕ, zero, suc, ◌≤◌, Bool, true, false, List, [], ◌∷◌, None, refl, sym, subst, arith, nat_lt, ltb-true, lt-ltb, leb-true}
use Rattle.std.specs.Prelude.{◌&&◌}
use Rattle.filter_print_laws.proofs.Basics.{both_true}
use Rattle.filterlang.specs.declared.token.Kind.{Kind}
use Rattle.filterlang.specs.declared.token.Kind.TheVariants as kind
use Rattle.filterlang.specs.declared.token.Joint.TheVariants.{And, Or}
use Rattle.filter_tree.specs.declared.tree.Comparison.{Comparison}
use Rattle.filter_tree.specs.declared.tree.Operator.{Operator}
use Rattle.filter_tree.specs.declared.tree.Primitive.{Primitive}
use Rattle.filter_tree.specs.Trees.{Amount, number, wire_length, minus, binary, accessor, Tree, everything, test, relation, negation, both, either}
use Rattle.filterlang.specs.Operators.{precedence_of}
use Rattle.filterlang.specs.Qualifiers.{identified}
use Rattle.filterlang.specs.Values.{Arith, arith_number, arith_named, arith_length, arith_minus, arith_open, arith_byte, arith_bytes, arith_tighter, arith_binary}
use Rattle.filterlang.specs.Grammar.{Group, group_one, group_and, group_or, GroupTerm, group_not, group_open, group_id, Expression, expr_one, expr_and, expr_or, Term, term_not, term_open, term_prim, term_group, term_relation}
use Rattle.filter_print.specs.Parentheses.{is_binary, left_enclosed, right_enclosed, side_enclosed, is_joined, first_enclosed, negated_enclosed, behind, fits_behind, value_fits, fits}
use Rattle.filter_print_laws.proofs.Sequences.{Parentheses, Domain}
use Rattle.filter_print_laws.proofs.Arithmetic.{IsValue, level, level_most, precedence_some}
use Rattle.filter_print_laws.proofs.Terms.{Nearest, IsPrimitive}
use Rattle.filter_print_laws.proofs.Expressions.{IsTree}
use Rattle.filter_print_laws.proofs.Bounds.{AreTokens}
use Rattle.filter_print_laws.proofs.Made.{AreQualifiers, AreNearest, identifier_made, behind_phrase, phrase_gives, prim_made}
use Rattle.filter_print_laws.proofs.Chosen.{needed}

-- both tests
both_hold : (a b : Bool) → a ≡ true → b ≡ true → (a && b) ≡ true
both_hold true b e h = h
both_hold false b e h = absurd cc

-- what fits within fewer levels fits within one more
abbrev Grows : (ℕ → Bool) → Type 0
Grows f = (m : ℕ) → f m ≡ true → f (suc m) ≡ true

-- after a sign that may stand there
grows_behind : (f : ℕ → Bool) → Grows f → (b : Bool) → Grows (λ n. fits_behind f (behind b n))
grows_behind f h true zero e = absurd cc
grows_behind f h true (suc m) e = h m e
grows_behind f h false n e = h n e

-- of two
both_grow : (f g : ℕ → Bool) → Grows f → Grows g → Grows (λ n. f n && g n)
both_grow f g h k m e = let each = both_true (f m) (g m) e in both_hold (f (suc m)) (g (suc m)) (h m each.0) (k m each.1)

-- of a value
value_grows : (chosen : Parentheses) (v : Amount) → Grows (value_fits chosen v)
unfolding value_fits
value_grows chosen (number k) m e = refl
value_grows chosen wire_length m e = refl
value_grows chosen (minus v) m e =
    grows_behind (λ inner. fits_behind (value_fits chosen v) (behind (is_binary v) inner)) (grows_behind (value_fits chosen v) (λ n h. value_grows chosen v n h) (is_binary v)) true m e
value_grows chosen (binary op v w) m e =
    both_grow (λ n. fits_behind (value_fits chosen v) (behind (left_enclosed chosen op v) n)) (λ n. fits_behind (value_fits chosen w) (behind (right_enclosed chosen op w) n))
    (grows_behind (value_fits chosen v) (λ n h. value_grows chosen v n h) (left_enclosed chosen op v)) (grows_behind (value_fits chosen w) (λ n h. value_grows chosen w n h) (right_enclosed chosen op w)) m e
value_grows chosen (accessor layer v size) m e = grows_behind (value_fits chosen v) (λ n h. value_grows chosen v n h) true m e

-- of a tree
tree_grows : (chosen : Parentheses) (t : Tree) → Grows (fits chosen t)
unfolding fits
tree_grows chosen everything m e = refl
tree_grows chosen (test p) m e = refl
tree_grows chosen (relation c v w) m e =
    both_grow (λ n. fits_behind (value_fits chosen v) (behind (side_enclosed chosen v) n)) (λ n. fits_behind (value_fits chosen w) (behind (side_enclosed chosen w) n))
    (grows_behind (value_fits chosen v) (value_grows chosen v) (side_enclosed chosen v)) (grows_behind (value_fits chosen w) (value_grows chosen w) (side_enclosed chosen w)) m e
tree_grows chosen (negation t) m e =
    grows_behind (λ inner. fits_behind (fits chosen t) (behind (negated_enclosed chosen t) inner)) (grows_behind (fits chosen t) (λ n h. tree_grows chosen t n h) (negated_enclosed chosen t)) true m e
tree_grows chosen (both t u) m e =
    both_grow (λ n. fits_behind (fits chosen t) (behind (first_enclosed chosen And t) n)) (λ n. fits_behind (fits chosen u) (behind (is_joined u) n))
    (grows_behind (fits chosen t) (λ n h. tree_grows chosen t n h) (first_enclosed chosen And t)) (grows_behind (fits chosen u) (λ n h. tree_grows chosen u n h) (is_joined u)) m e
tree_grows chosen (either t u) m e =
    both_grow (λ n. fits_behind (fits chosen t) (behind (first_enclosed chosen Or t) n)) (λ n. fits_behind (fits chosen u) (behind (is_joined u) n))
    (grows_behind (fits chosen t) (λ n h. tree_grows chosen t n h) (first_enclosed chosen Or t)) (grows_behind (fits chosen u) (λ n h. tree_grows chosen u n h) (is_joined u)) m e

-- where fewer parentheses stand, it fits as well
fewer : (f : ℕ → Bool) → Grows f → (b c : Bool) (n : ℕ) → (c ≡ true → b ≡ true) → fits_behind f (behind b n) ≡ true → fits_behind f (behind c n) ≡ true
fewer f h true true n less e = e
fewer f h true false zero less e = absurd cc
fewer f h true false (suc n) less e = h n e
fewer f h false true n less e = let never = less refl in absurd cc
fewer f h false false n less e = e

-- after a sign of its own, it fits with parentheses or without
behind_sign : (f : ℕ → Bool) → Grows f → (b : Bool) (n : ℕ) → f n ≡ true → fits_behind f (behind b (suc n)) ≡ true
behind_sign f h true n e = e
behind_sign f h false n e = h n e

-- a value fits, in parentheses where it binds more loosely than p
abbrev Fits : ℕ → ℕ → Amount → Type 0
Fits n p v = fits_behind (value_fits needed v) (behind (nat_lt p (level v)) n) ≡ true

-- without parentheses it fits
fits_bare : (n p : ℕ) (v : Amount) → level v ≤ p → Fits n p v → value_fits needed v n ≡ true
fits_bare n p v le e = fewer (value_fits needed v) (value_grows needed v) (nat_lt p (level v)) false n (λ f. absurd cc) e

-- and so it does in turn
bare_fits : (n p : ℕ) (v : Amount) → level v ≤ p → value_fits needed v n ≡ true → Fits n p v
bare_fits n p v le e = fewer (value_fits needed v) (value_grows needed v) false (nat_lt p (level v)) n (λ f. let less = ltb-true p (level v) f in absurd (omega arith)) e

-- an operator binds more loosely than none
binary_level : (v : Amount) → is_binary v ≡ true → nat_lt 0 (level v) ≡ true
binary_level (number k) e = absurd cc
binary_level wire_length e = absurd cc
binary_level (minus v) e = absurd cc
binary_level (binary op v w) e = let p = precedence_some op in lt-ltb 0 (precedence_of op) (omega (arith, p.1))
binary_level (accessor layer v size) e = absurd cc

-- on the left of an operator stand those parentheses that a looser one needs
left_level : (op : Operator) (p : ℕ) (v : Amount) → precedence_of op ≡ suc p → left_enclosed needed op v ≡ true → nat_lt (suc p) (level v) ≡ true
unfolding fits
left_level op p (number k) e h = absurd cc
left_level op p wire_length e h = absurd cc
left_level op p (minus v) e h = absurd cc
left_level op p (binary inner v w) e h = subst (λ x. nat_lt x (precedence_of inner) ≡ true) e h
left_level op p (accessor layer v size) e h = absurd cc

-- on its right also those that an equal one needs
right_level : (op : Operator) (p : ℕ) (v : Amount) → precedence_of op ≡ suc p → right_enclosed needed op v ≡ true → nat_lt p (level v) ≡ true
unfolding fits
right_level op p (number k) e h = absurd cc
right_level op p wire_length e h = absurd cc
right_level op p (minus v) e h = absurd cc
right_level op p (binary inner v w) e h = let le = leb-true (precedence_of op) (precedence_of inner) h in lt-ltb p (precedence_of inner) (omega arith)
right_level op p (accessor layer v size) e h = absurd cc

-- a value that is read
pub value_made : {n p : ℕ} {ts rest : List Kind} {v : Amount} → Arith n p ts v rest → AreTokens ts → IsValue v × Fits n p v × AreTokens rest
unfolding value_fits
value_made arith_number is = (is.0, refl, is.1)
value_made arith_named is = (is.0, refl, is.1)
value_made arith_length is = (tt, refl, is.1)
value_made (arith_minus {n = n} {v = v} h) is =
    let made = value_made h is.1 in
    (made.0, fewer (value_fits needed v) (value_grows needed v) (nat_lt 0 (level v)) (is_binary v) n (binary_level v) made.1, made.2)
value_made (arith_open {n = n} {v = v} h) is =
    let made = value_made h is.1 in
    (made.0, behind_sign (value_fits needed v) (value_grows needed v) (nat_lt 0 (level v)) n (fits_bare n 6 v (level_most v) made.1), made.2.1)
value_made (arith_byte {n = n} {v = v} e h) is =
    let made = value_made h is.1.1 in
    (made.0, fits_bare n 6 v (level_most v) made.1, made.2.1)
value_made (arith_bytes {n = n} {v = v} e h f) is =
    let made = value_made h is.1.1 in
    (made.0, fits_bare n 6 v (level_most v) made.1, made.2.1.1.1)
value_made (arith_tighter {n = n} {p = p} {v = v} h) is =
    let made = value_made h is in
    (made.0, fewer (value_fits needed v) (value_grows needed v) (nat_lt p (level v)) (nat_lt (suc p) (level v)) n (λ e. let less = ltb-true (suc p) (level v) e in lt-ltb p (level v) (omega arith)) made.1, made.2)
value_made (arith_binary {n = n} {p = p} {op = op} {v = v} {w = w} e h k barred) is =
    let left = value_made h is in
    let right = value_made k left.2.1 in
    let first = fewer (value_fits needed v) (value_grows needed v) (nat_lt (suc p) (level v)) (left_enclosed needed op v) n (left_level op p v e) left.1 in
    let second = fewer (value_fits needed w) (value_grows needed w) (nat_lt p (level w)) (right_enclosed needed op w) n (right_level op p w e) right.1 in
    ((left.0, right.0, barred), bare_fits n (suc p) (binary op v w) (omega arith) (both_hold _ _ first second), right.2)

-- of a tree that is read
abbrev Made : ℕ → Tree → List Kind → Type 0
Made n t rest = IsTree t × (fits needed t n ≡ true) × AreTokens rest

-- and of a term, in parentheses where expressions are joined in it
abbrev MadeTerm : ℕ → Tree → List Kind → Type 0
MadeTerm n t rest = IsTree t × (fits_behind (fits needed t) (behind (is_joined t) n) ≡ true) × AreTokens rest

-- a term is an expression
as_expression : (n : ℕ) (t : Tree) (rest : List Kind) → MadeTerm n t rest → Made n t rest
as_expression n t rest made = (made.0, fewer (fits needed t) (tree_grows needed t) (is_joined t) false n (λ f. absurd cc) made.1, made.2)

-- an expression in parentheses is a term
as_opened : (n : ℕ) (t : Tree) (rest : List Kind) → Made n t (kind.Close ∷ rest) → MadeTerm (suc n) t rest
as_opened n t rest made = (made.0, behind_sign (fits needed t) (tree_grows needed t) (is_joined t) n made.1, made.2.1)

-- after `not` stand those that are needed
not_enclosed : (t : Tree) → negated_enclosed needed t ≡ is_joined t
unfolding fits
not_enclosed t = refl

-- a negated term
as_negated : (n : ℕ) (t : Tree) (rest : List Kind) → MadeTerm n t rest → MadeTerm (suc n) (negation t) rest
unfolding fits
as_negated n t rest made = (made.0, subst (λ b. fits_behind (fits needed t) (behind b n) ≡ true) (sym (not_enclosed t)) made.1, made.2)

-- a primitive
as_test : (n : ℕ) (p : Primitive) (rest : List Kind) → IsPrimitive p → AreTokens rest → MadeTerm n (test p) rest
unfolding fits
as_test n p rest is are = (is, refl, are)

-- two with `and` between them
as_both : (n : ℕ) (t u : Tree) (mid rest : List Kind) → Made n t mid → MadeTerm n u rest → Made n (both t u) rest
unfolding fits
as_both n t u mid rest first second = ((first.0, second.0), both_hold _ _ first.1 second.1, second.2)

-- two with `or` between them
as_either : (n : ℕ) (t u : Tree) (mid rest : List Kind) → Made n t mid → MadeTerm n u rest → Made n (either t u) rest
unfolding fits
as_either n t u mid rest first second = ((first.0, second.0), both_hold _ _ first.1 second.1, second.2)

-- a relation
as_relation : (n : ℕ) (c : Comparison) (v w : Amount) → value_fits needed v n ≡ true → value_fits needed w n ≡ true → fits needed (relation c v w) n ≡ true
unfolding fits
as_relation n c v w e h = both_hold _ _ e h

mutual
  -- a group under a phrase
  group_made : {n : ℕ} {g : Domain identified} {ts rest : List Kind} {t : Tree} → Group n g ts t rest → AreQualifiers g → AreTokens ts → Made n t rest
  group_made {n} {rest = rest} {t = t} (group_one h) are is = as_expression n t rest (group_term_made h are is)
  group_made {n} {rest = rest} (group_and {mid = mid} {t = t} {u = u} h k) are is =
      let first = group_made h are is in as_both n t u (kind.Joint And ∷ mid) rest first (group_term_made k are first.2.1)
  group_made {n} {rest = rest} (group_or {mid = mid} {t = t} {u = u} h k) are is =
      let first = group_made h are is in as_either n t u (kind.Joint Or ∷ mid) rest first (group_term_made k are first.2.1)

  -- a term of one
  group_term_made : {n : ℕ} {g : Domain identified} {ts rest : List Kind} {t : Tree} → GroupTerm n g ts t rest → AreQualifiers g → AreTokens ts → MadeTerm n t rest
  group_term_made {rest = rest} (group_not {n = n} {t = t} h) are is = as_negated n t rest (group_term_made h are is.1)
  group_term_made {rest = rest} (group_open {n = n} {t = t} h) are is = as_opened n t rest (group_made h are is.1)
  group_term_made {n} {g = g} {ts = ts} {rest = rest} (group_id {id = x} {p = p} a b) are is = let made = identifier_made g x ts rest p are is a b in as_test n p rest made.0 made.1

-- expressions and their terms, with what they give
mutual
  expr_made : {n : ℕ} {q r : Nearest} {ts rest : List Kind} {t : Tree} → Expression n q ts t r rest → AreTokens ts → AreNearest q → Made n t rest × AreNearest r
  expr_made {n} {rest = rest} {t = t} (expr_one h) is near = let made = term_made h is near in (as_expression n t rest made.0, made.1)
  expr_made {n} {rest = rest} (expr_and {mid = mid} {t = t} {u = u} h k) is near =
      let first = expr_made h is near in
      let second = term_made k first.0.2.1 first.1 in
      (as_both n t u (kind.Joint And ∷ mid) rest first.0 second.0, second.1)
  expr_made {n} {rest = rest} (expr_or {mid = mid} {t = t} {u = u} h k) is near =
      let first = expr_made h is near in
      let second = term_made k first.0.2.1 first.1 in
      (as_either n t u (kind.Joint Or ∷ mid) rest first.0 second.0, second.1)

  term_made : {n : ℕ} {q r : Nearest} {ts rest : List Kind} {t : Tree} → Term n q ts t r rest → AreTokens ts → AreNearest q → MadeTerm n t rest × AreNearest r
  term_made {rest = rest} (term_not {n = n} {t = t} h) is near = let made = term_made h is.1 near in (as_negated n t rest made.0, made.1)
  term_made {rest = rest} (term_open {n = n} {t = t} e h) is near = let made = expr_made h is.1 near in (as_opened n t rest made.0, made.1)
  term_made {n} {rest = rest} (term_prim {p = p} e h) is near = let made = prim_made h is near in (as_test n p rest made.0 made.1, made.2)
  term_made {rest = rest} (term_group {n = n} {phrase = phrase} {g = g} {t = t} e a w f h) is near =
      let are = phrase_gives phrase g f in
      (as_opened n t rest (group_made h are (behind_phrase _ a is).1), are)
  term_made {n} (term_relation {c = c} {v = v} {w = w} e h k) is near =
      let left = value_made h is in
      let right = value_made k left.2.1 in
      (((left.0, right.0), as_relation n c v w (fits_bare n 6 v (level_most v) left.1) (fits_bare n 6 w (level_most w) right.1), right.2), tt)

-- and of the whole
pub reads_made : {t : Tree} {ks : List Kind} {r : Nearest} → Expression 64 None ks t r [] → AreTokens ks → IsTree t × (fits needed t 64 ≡ true)
reads_made h is = let made = (expr_made h is tt).0 in (made.0, made.1)
