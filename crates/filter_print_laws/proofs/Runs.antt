-- Where the runs of letters, digits and marks end that numbers and addresses are read from.
use Rattle.std.proofs.Common.{◌≡◌, ℕ, ◌+◌, ◌<◌, Bool, true, false, not, ◌||◌, cond, List, [], ◌∷◌, ◌++◌, Option, Some, None, length, refl, sym, ap, ◌∙◌, arith, ◌==◌, append_assoc}
use Rattle.std.specs.Prelude.{option_and_then}
use Rattle.std.specs.List.{list_all, list_any, slice_split, count_by}
use Rattle.std.specs.Str.Parse.{AllDigits}
use Rattle.std.proofs.lemmas.List.Splits.{length-slice_split}
use Rattle.std.proofs.lemmas.Bool.{ne_eqb}
use Rattle.std.proofs.lemmas.List.Sums.{sum_by-cons}
use Rattle.std.proofs.lemmas.List.{append-nil}
use Rattle.std.proofs.lemmas.List.Folds.{list_all-append}
use Rattle.filterlang.specs.Words.{begins}
use Rattle.filterlang.specs.Numbers.{is_in_run, run_at, octets, ethernet, ethernet_of, ethernet_at}
use Rattle.filter_print_laws.proofs.Basics.{length-octets}
use Rattle.filter_print_laws.proofs.Basics.{both_true}
use Rattle.filter_print_laws.proofs.Digits.{of_digits, run_ends}

-- What may come after a number: nothing, or one of these signs.
pub data Follows : List ℕ → Type 0 where
  follows_end : Follows []
  follows_blank : {rest : List ℕ} → Follows (32 ∷ rest)
  follows_close : {rest : List ℕ} → Follows (41 ∷ rest)
  follows_minus : {rest : List ℕ} → Follows (45 ∷ rest)
  follows_slash : {rest : List ℕ} → Follows (47 ∷ rest)
  follows_bracket : {rest : List ℕ} → Follows (93 ∷ rest)
  follows_two : {rest : List ℕ} → Follows (58 ∷ 50 ∷ 93 ∷ rest)
  follows_four : {rest : List ℕ} → Follows (58 ∷ 52 ∷ 93 ∷ rest)

-- none of them goes on with a run of letters, digits and dots
pub follows_run : (rest : List ℕ) → Follows rest → begins (is_in_run 46) rest ≡ false
follows_run rest follows_end = refl
follows_run rest follows_blank = refl
follows_run rest follows_close = refl
follows_run rest follows_minus = refl
follows_run rest follows_slash = refl
follows_run rest follows_bracket = refl
follows_run rest follows_two = refl
follows_run rest follows_four = refl

-- what does not hold
pub not_true : (b : Bool) → not b ≡ true → b ≡ false
not_true true e = absurd cc
not_true false e = refl

-- nothing more
plus_none : (a b : ℕ) → a ≡ 0 → a + b ≡ b
plus_none a b e = omega arith

-- what begins with bytes that no mark is among has that many marks more
pub count_behind : (p : ℕ → Bool) (ds more : List ℕ) → list_all (λ b. not (p b)) ds ≡ true → count_by p (ds ++ more) ≡ count_by p more
count_behind p [] more all = refl
count_behind p (c ∷ cs) more all =
    let both = both_true (not (p c)) (list_all (λ b. not (p b)) cs) all in
    let head : cond (p c) 1 0 ≡ 0 = rw (not_true (p c) both.0) refl in
    sum_by-cons (λ x. cond (p x) 1 0) c (cs ++ more) ∙ plus_none (cond (p c) 1 0) (count_by p (cs ++ more)) head ∙ count_behind p cs more both.1

-- a run with few marks is no Ethernet address
few_marks : (run : List ℕ) → count_by (λ b. b == 58) run < 5 → ethernet_of run ≡ None
few_marks run few = at_octets (octets 16 2 (slice_split (λ b. b == 58) run)) refl
  where
    other : (ns : List ℕ) → length ns < 6 → ethernet ns ≡ None
    other ns less = rw (ne_eqb (length ns) 6 (λ e. absurd (omega arith))) refl

    at_octets : (o : Option (List ℕ)) → octets 16 2 (slice_split (λ b. b == 58) run) ≡ o → option_and_then ethernet o ≡ None
    at_octets None e = refl
    at_octets (Some ns) e = other ns (omega (arith, length-octets 16 2 (slice_split (λ b. b == 58) run) ns e, length-slice_split (λ b. b == 58) run))

-- where the run of a text has few, none stands there
pub no_ethernet : (text run : List ℕ) → run_at 58 text ≡ run → count_by (λ b. b == 58) run < 5 → ethernet_at text ≡ None
unfolding ethernet_at
no_ethernet text run e few = rw (e, few_marks run few) refl

-- digits, and what may follow them, are no Ethernet address
pub digits_no_ethernet : (ds rest : List ℕ) → AllDigits 10 ds → Follows rest → ethernet_at (ds ++ rest) ≡ None
digits_no_ethernet ds rest all f = by_follows rest f
  where
    runs : list_all (is_in_run 58) ds ≡ true
    runs = of_digits (is_in_run 58) refl ds all

    bare : list_all (λ b. not (b == 58)) ds ≡ true
    bare = of_digits (λ b. not (b == 58)) refl ds all

    plain : (rest : List ℕ) → begins (is_in_run 58) rest ≡ false → ethernet_at (ds ++ rest) ≡ None
    plain rest ends = no_ethernet (ds ++ rest) (ds ++ []) (run_ends (is_in_run 58) ds rest runs ends ∙ sym (append-nil ds)) (omega (arith, count_behind (λ b. b == 58) ds [] bare))

    sized : (d : ℕ) (rest : List ℕ) → is_in_run 58 d ≡ true → (d == 58) ≡ false → ethernet_at (ds ++ 58 ∷ d ∷ 93 ∷ rest) ≡ None
    sized d rest is other =
        no_ethernet (ds ++ 58 ∷ d ∷ 93 ∷ rest) (ds ++ 58 ∷ d ∷ [])
        (ap (run_at 58) (sym (append_assoc ds (58 ∷ d ∷ []) (93 ∷ rest))) ∙ run_ends (is_in_run 58) (ds ++ 58 ∷ d ∷ []) (93 ∷ rest) (list_all-append (is_in_run 58) ds (58 ∷ d ∷ []) ∙ rw (runs, is) refl) refl)
        (omega (arith, count_behind (λ b. b == 58) ds (58 ∷ d ∷ []) bare, one))
      where
        one : count_by (λ b. b == 58) (58 ∷ d ∷ []) ≡ 1
        one = rw other refl

    by_follows : (rest : List ℕ) → Follows rest → ethernet_at (ds ++ rest) ≡ None
    by_follows rest follows_end = plain [] refl
    by_follows rest (follows_blank {rest = r}) = plain (32 ∷ r) refl
    by_follows rest (follows_close {rest = r}) = plain (41 ∷ r) refl
    by_follows rest (follows_minus {rest = r}) = plain (45 ∷ r) refl
    by_follows rest (follows_slash {rest = r}) = plain (47 ∷ r) refl
    by_follows rest (follows_bracket {rest = r}) = plain (93 ∷ r) refl
    by_follows rest (follows_two {rest = r}) = sized 50 r refl refl
    by_follows rest (follows_four {rest = r}) = sized 52 r refl refl

-- no mark among bytes leaves them one part
pub one_part : (p : ℕ → Bool) (ds : List ℕ) → list_all (λ b. not (p b)) ds ≡ true → slice_split p ds ≡ ds ∷ []
one_part p [] all = refl
one_part p (c ∷ cs) all =
    let both = both_true (not (p c)) (list_all (λ b. not (p b)) cs) all in
    rw (not_true (p c) both.0, one_part p cs both.1) refl

-- and a mark after them ends the part
pub first_part : (p : ℕ → Bool) (ds : List ℕ) (m : ℕ) (more : List ℕ) → list_all (λ b. not (p b)) ds ≡ true → p m ≡ true → slice_split p (ds ++ m ∷ more) ≡ ds ∷ slice_split p more
first_part p [] m more all mark = rw mark refl
first_part p (c ∷ cs) m more all mark =
    let both = both_true (not (p c)) (list_all (λ b. not (p b)) cs) all in
    rw (not_true (p c) both.0, first_part p cs m more both.1 mark) refl

-- a mark is found, whatever is before it
pub any_behind : (p : ℕ → Bool) (ds : List ℕ) (m : ℕ) (more : List ℕ) → p m ≡ true → list_any p (ds ++ m ∷ more) ≡ true
any_behind p [] m more mark = rw mark refl
any_behind p (c ∷ cs) m more mark = at_test (p c) (any_behind p cs m more mark)
  where
    at_test : (b : Bool) → list_any p (cs ++ m ∷ more) ≡ true → (b || list_any p (cs ++ m ∷ more)) ≡ true
    at_test true e = refl
    at_test false e = e

-- nor is one found where none is
pub none_any : (p : ℕ → Bool) (ds : List ℕ) → list_all (λ b. not (p b)) ds ≡ true → list_any p ds ≡ false
none_any p [] all = refl
none_any p (c ∷ cs) all =
    let both = both_true (not (p c)) (list_all (λ b. not (p b)) cs) all in
    rw (not_true (p c) both.0, none_any p cs both.1) refl
