-- All parentheses, and those that are needed.
use Rattle.std.proofs.Common.{◌≡◌, ℕ, zero, suc, ◌<◌, ◌≤◌, Bool, true, false, not, refl, arith, ◌==◌, nat_lt, nat_le}
use Rattle.std.proofs.lemmas.Bool.{eqb-true}
use Rattle.std.proofs.lemmas.Bool.Decides.{nat_tests}
use Rattle.filter_tree.specs.declared.tree.Operator.{Operator}
use Rattle.filterlang.specs.Operators.{precedence_of}
use Rattle.filter_tree.specs.Trees.{Amount, number, wire_length, minus, binary, accessor, Tree, everything, test, relation, negation, both, either}
use Rattle.filter_print.specs.Parentheses.{left_enclosed, right_enclosed, negated_enclosed, is_joined, fits}
use Rattle.filter_print.specs.Canonical.{parentheses_of}
use Rattle.filter_print_laws.proofs.Sequences.{Parentheses}
use Rattle.filter_print_laws.proofs.Arithmetic.{level, Suits}
use Rattle.filter_print_laws.proofs.Terms.{either_of}

-- `not` this many times
abbrev nots : ℕ → Tree
nots zero = everything
nots (suc n) = negation (nots n)

-- all of them, as a small tree has
abbrev pub all_of : Parentheses
all_of = parentheses_of everything

-- those that are needed, as a tree has that is too deep
abbrev pub needed : Parentheses
needed = parentheses_of (nots 65)

-- with all parentheses, what stands on the left without binds as tightly
left_all : (op : Operator) (v : Amount) → left_enclosed all_of op v ≡ false → level v ≤ precedence_of op
unfolding fits
left_all op (number n) e = omega arith
left_all op wire_length e = omega arith
left_all op (minus v) e = omega arith
left_all op (accessor layer v size) e = omega arith
left_all op (binary inner v w) e = at_test (precedence_of inner == precedence_of op) refl e
  where
    at_test : (is : Bool) → (precedence_of inner == precedence_of op) ≡ is → not is ≡ false → precedence_of inner ≤ precedence_of op
    at_test true same f = let s = eqb-true (precedence_of inner) (precedence_of op) same in omega arith
    at_test false other f = absurd cc

-- and so it does with those that are needed
left_needed : (op : Operator) (v : Amount) → left_enclosed needed op v ≡ false → level v ≤ precedence_of op
unfolding fits
left_needed op (number n) e = omega arith
left_needed op wire_length e = omega arith
left_needed op (minus v) e = omega arith
left_needed op (accessor layer v size) e = omega arith
left_needed op (binary inner v w) e = not_less (precedence_of op) (precedence_of inner) e
  where
    not_less : (a b : ℕ) → nat_lt a b ≡ false → b ≤ a
    not_less a b e = grind (arith, nat_tests)

-- what stands on the right without has no operator
right_all : (op : Operator) (v : Amount) (k : ℕ) → precedence_of op ≡ suc k → right_enclosed all_of op v ≡ false → level v ≤ k
unfolding fits
right_all op (number n) k p e = omega arith
right_all op wire_length k p e = omega arith
right_all op (minus v) k p e = omega arith
right_all op (accessor layer v size) k p e = omega arith
right_all op (binary inner v w) k p e = absurd cc

-- or binds more tightly
right_needed : (op : Operator) (v : Amount) (k : ℕ) → precedence_of op ≡ suc k → right_enclosed needed op v ≡ false → level v ≤ k
unfolding fits
right_needed op (number n) k p e = omega arith
right_needed op wire_length k p e = omega arith
right_needed op (minus v) k p e = omega arith
right_needed op (accessor layer v size) k p e = omega arith
right_needed op (binary inner v w) k p e = let less = not_at_most (precedence_of op) (precedence_of inner) e in omega arith
  where
    not_at_most : (a b : ℕ) → nat_le a b ≡ false → b < a
    not_at_most a b e = grind (arith, nat_tests)

-- what comes after `not` without is joined to nothing
behind_all : (t : Tree) → negated_enclosed all_of t ≡ false → is_joined t ≡ false
unfolding fits
behind_all everything e = refl
behind_all (test p) e = refl
behind_all (relation c v w) e = refl
behind_all (negation t) e = refl
behind_all (both t u) e = absurd cc
behind_all (either t u) e = absurd cc

-- either way
behind_needed : (t : Tree) → negated_enclosed needed t ≡ false → is_joined t ≡ false
unfolding fits
behind_needed everything e = refl
behind_needed (test p) e = refl
behind_needed (relation c v w) e = refl
behind_needed (negation t) e = refl
behind_needed (both t u) e = absurd cc
behind_needed (either t u) e = absurd cc

-- so all of them suit
all_suits : Suits all_of
all_suits = record { left = left_all; right = right_all; behind_not = behind_all }

-- and those that are needed do
needed_suits : Suits needed
needed_suits = record { left = left_needed; right = right_needed; behind_not = behind_needed }

-- those that are chosen for a tree suit it, and are not too deep where those that are needed are not
pub chosen_suits : (t : Tree) → Suits (parentheses_of t)
unfolding fits
chosen_suits t = either_of Suits _ _ _ (λ e. all_suits) (λ e. needed_suits)

-- nor are they too deep where those that are needed are not
pub chosen_fits : (t : Tree) → fits needed t 64 ≡ true → fits (parentheses_of t) t 64 ≡ true
unfolding fits
chosen_fits t f = either_of (λ chosen. fits chosen t 64 ≡ true) _ all_of needed (λ e. e) (λ e. f)
