-- The longest word and the longest sign.
use Rattle.std.proofs.Common.{◌≡◌, ℕ, ◌<◌, ◌≤◌, Bool, true, false, not, ◌&&◌, cond, List, [], ◌∷◌, Option, Some, None, length, nat_le, nat_eq, refl, sym, subst, ap, ◌∙◌, arith, leb-true, ⊎_elim}
use Rattle.std.specs.Prelude.{option_map}
use Rattle.std.specs.List.{find, list_all, AllByRecursion}
use Rattle.std.proofs.lemmas.Bool.{eqb-true, eq-eqb}
use Rattle.std.proofs.lemmas.Bool.Decides.{leb_tells}
use Rattle.filterlang.specs.declared.token.Kind.{Kind}
use Rattle.filterlang.proofs.Within.{both_true}
use Rattle.filterlang.specs.Words.{Entry, words, signs, stands, stands_whole, standing, whole_word, token_of}

-- no entry whose spelling passes is longer than n
abbrev NoneLonger : (List ℕ → Bool) → ℕ → List Entry → Type 0
NoneLonger p n table = AllByRecursion (λ x. p x.0 ≡ true → length x.0 ≤ n) table

-- each entry may go before all those after it
abbrev is_ordered : (List ℕ → List ℕ → Bool) → List Entry → Bool
is_ordered before [] = true
is_ordered before (e ∷ es) = list_all (λ x. before e.0 x.0) es && is_ordered before es

module _ (p : List ℕ → Bool) (before : List ℕ → List ℕ → Bool) (never_longer : (u v : List ℕ) → before u v ≡ true → p u ≡ true → p v ≡ true → length v ≤ length u) where
  -- no entry after one that passes is longer
  none_behind : (u : List ℕ) (es : List Entry) → p u ≡ true → list_all (λ x. before u x.0) es ≡ true → NoneLonger p (length u) es
  none_behind u [] passes all = tt
  none_behind u (x ∷ es) passes all =
      let both = both_true (before u x.0) (list_all (λ y. before u y.0) es) all in
      (never_longer u x.0 both.0 passes, none_behind u es passes both.1)

  -- what is found first in an ordered table is as long as any that passes
  longest_found : (es : List Entry) (found : Entry) → is_ordered before es ≡ true → find (λ x. p x.0) es ≡ Some found → NoneLonger p (length found.0) es
  longest_found [] found order e = absurd cc
  longest_found (x ∷ es) found order e = at_test (p x.0) refl e (both_true (list_all (λ y. before x.0 y.0) es) (is_ordered before es) order) (longest_found es found)
    where
      at_test : (b : Bool) → p x.0 ≡ b → cond b (Some x) (find (λ y. p y.0) es) ≡ Some found → (list_all (λ y. before x.0 y.0) es ≡ true) × (is_ordered before es ≡ true) → (is_ordered before es ≡ true → find (λ y. p y.0) es ≡ Some found → NoneLonger p (length found.0) es) → NoneLonger p (length found.0) (x ∷ es)
      at_test true passes e each later = let same : x ≡ found = cc in subst (λ (f : Entry). NoneLonger p (length f.0) (x ∷ es)) same (λ h. omega arith, none_behind x.0 es passes each.0)
      at_test false passes e each later = (λ h. absurd cc, later each.1 e)

  -- the same, by what the entry stands for
  longest_in : (table : List Entry) (kind : Kind) (n : ℕ) → is_ordered before table ≡ true → option_map token_of (find (λ x. p x.0) table) ≡ Some (kind, n) → NoneLonger p n table
  longest_in table kind n order e = at_found (find (λ x. p x.0) table) refl e
    where
      at_found : (o : Option Entry) → find (λ x. p x.0) table ≡ o → option_map token_of o ≡ Some (kind, n) → NoneLonger p n table
      at_found None is e = absurd cc
      at_found (Some found) is e =
          let pair : ◌≡◌ {A = Kind × ℕ} (token_of found) (kind, n) = cc in
          let same : length found.0 ≡ n = ap (λ (t : Kind × ℕ). t.1) pair in
          rw (sym same) (longest_found table found order is)

-- a spelling at least as long as the other one
abbrev is_as_long : List ℕ → List ℕ → Bool
is_as_long u v = nat_le (length v) (length u)

-- no sign stands before a longer one
signs_in_order : is_ordered is_as_long signs ≡ true
unfolding signs
signs_in_order = refl

-- no sign that stands at the front of the text is longer than the one that is read there
pub longest_sign : (text : List ℕ) (kind : Kind) (n : ℕ) → standing signs text ≡ Some (kind, n) → AllByRecursion (λ sign. stands text sign.0 ≡ true → length sign.0 ≤ n) signs
longest_sign text kind n e = longest_in (stands text) is_as_long (λ u v long here there. leb-true (length v) (length u) long) signs kind n signs_in_order e

-- a spelling that does not stand whole at the front of the other one, as icmp does at the front of icmp-echo
abbrev is_no_front : List ℕ → List ℕ → Bool
is_no_front u v = not (stands_whole v u)

-- of two spellings at the front of a text the shorter one, where it stands whole there, does so at the front of the other
whole_front : (text u v : List ℕ) → stands_whole text u ≡ true → stands text v ≡ true → length u < length v → stands_whole v u ≡ true
whole_front text u [] here there more = absurd (omega arith)
whole_front [] u (c ∷ v) here there more = absurd cc
whole_front (b ∷ text) [] (c ∷ v) here there more = rw (eqb-true c b (both_true (nat_eq c b) (stands text v) there).0) here
whole_front (b ∷ text) (a ∷ u) (c ∷ v) here there more =
    let first = (both_true (nat_eq a b) (stands text u) (both_true (stands (b ∷ text) (a ∷ u)) _ here).0).0 in
    let other = both_true (nat_eq c b) (stands text v) there in
    rw (eq-eqb a c (eqb-true a b first ∙ sym (eqb-true c b other.0))) (whole_front text u v (rw first at here) other.1 (omega arith))

-- no word stands before one that it begins whole
words_in_order : is_ordered is_no_front words ≡ true
unfolding words
words_in_order = refl

-- so the longer of two words that stand whole in a text comes first
never_longer_word : (text u v : List ℕ) → is_no_front u v ≡ true → stands_whole text u ≡ true → stands_whole text v ≡ true → length v ≤ length u
never_longer_word text u v order here there = ⊎_elim (λ tells. tells.1) (λ tells. clash tells.1) (leb_tells (length v) (length u))
  where
    clash : length u < length v → length v ≤ length u
    clash more = let whole = whole_front text u v here (both_true (stands text v) _ there).0 more in absurd cc

-- no word that stands whole at the front of the text is longer than the one that is read there
pub longest_word : (text : List ℕ) (kind : Kind) (n : ℕ) → whole_word words text ≡ Some (kind, n) → AllByRecursion (λ word. stands_whole text word.0 ≡ true → length word.0 ≤ n) words
longest_word text kind n e = longest_in (stands_whole text) is_no_front (never_longer_word text) words kind n words_in_order e
