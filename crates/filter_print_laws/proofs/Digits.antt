-- The digits of numbers, and where they end.
use Rattle.std.proofs.Common.{◌≡◌, ℕ, zero, suc, ◌+◌, ◌*◌, ◌-◌, ◌<◌, Bool, true, false, ◌&&◌, List, [], ◌∷◌, ◌++◌, Some, length, get_or, nat_eq, refl, sym, ap, ◌∙◌, subst, arith, le-leb, lt-ltb, ◌==◌}
use Rattle.std.specs.Char.{digit_value}
use Rattle.std.specs.Fmt.{decimal}
use Rattle.std.specs.Str.Parse.{AllDigits, digits_value_after}
use Rattle.std.specs.List.{take_while, list_all}
use Rattle.std.proofs.lemmas.Fmt.{decimal_is_IsNumeral, first_decimal, length-decimal-le, decimal_digit}
use Rattle.std.proofs.lemmas.Str.Parse.{digit_from_value}
use Rattle.std.proofs.lemmas.List.Sums.{take_while-cons}
use Rattle.filterlang.specs.Words.{begins}
use Rattle.filterlang.specs.Numbers.{at_most, number_behind, numeral, number_of, octet}
use Rattle.filter_print_laws.proofs.Basics.{both_true}
use Rattle.std.proofs.lemmas.Bool.{eqb-true, eqb-false, ne_eqb}
use Rattle.std.specs.Prelude.{◌^◌}
use Rattle.filter_print_laws.proofs.Basics.{numeral_is}

-- a test passes of each number below a bound
abbrev pub below : (ℕ → Bool) → ℕ → Bool
below p zero = true
below p (suc n) = p n && below p n

-- so it passes of any of them
pub below_all : (p : ℕ → Bool) (n : ℕ) → below p n ≡ true → (k : ℕ) → k < n → p k ≡ true
below_all p zero e k less = absurd (omega arith)
below_all p (suc n) e k less = at_test (k == n) refl (both_true (p n) (below p n) e) (below_all p n)
  where
    at_test : (b : Bool) → (k == n) ≡ b → (p n ≡ true) × (below p n ≡ true) → (below p n ≡ true → (j : ℕ) → j < n → p j ≡ true) → p k ≡ true
    at_test true same both before = subst (λ x. p x ≡ true) (sym (eqb-true k n same)) both.0
    at_test false other both before = let apart = eqb-false k n other in before both.1 k (omega arith)

-- what holds of the ten digits
pub of_digit : (p : ℕ → Bool) → below (λ d. p (48 + d)) 10 ≡ true → (c : ℕ) → digit_value c < 10 → p c ≡ true
of_digit p e c is =
    let range = digit_from_value c is in
    let c_is : 48 + (c - 48) ≡ c = omega arith in
    subst (λ x. p x ≡ true) c_is (below_all (λ d. p (48 + d)) 10 e (c - 48) (omega arith))

-- and of digits
pub of_digits : (p : ℕ → Bool) → below (λ d. p (48 + d)) 10 ≡ true → (ds : List ℕ) → AllDigits 10 ds → list_all p ds ≡ true
of_digits p e [] all = refl
of_digits p e (c ∷ cs) all = rw (of_digit p e c all.0, of_digits p e cs all.1) refl

-- a run ends where its bytes do
pub run_ends : (p : ℕ → Bool) (ds rest : List ℕ) → list_all p ds ≡ true → begins p rest ≡ false → take_while p (ds ++ rest) ≡ ds
run_ends p [] [] all ends = refl
run_ends p [] (b ∷ rest) all ends = take_while-cons p b rest ∙ rw ends refl
run_ends p (c ∷ cs) rest all ends =
    let both = both_true (p c) (list_all p cs) all in
    take_while-cons p c (cs ++ rest) ∙ rw (both.0, run_ends p cs rest both.1 ends) refl

-- the number that digits spell
pub number_behind-digits : (m : ℕ) (ds : List ℕ) → AllDigits 10 ds → number_behind 10 m ds ≡ Some (digits_value_after 10 m ds)
number_behind-digits m [] all = refl
number_behind-digits m (c ∷ cs) all = rw (lt-ltb (digit_value c) 10 all.0) (number_behind-digits (m * 10 + digit_value c) cs all.1)

-- of a number as it is printed
module _ (n : ℕ) (small : n < 2 ^ 32) where
  pub decimal_digits : AllDigits 10 (decimal n)
  decimal_digits = (decimal_is_IsNumeral n (omega arith)).0.1

  pub decimal_some : 0 < length (decimal n)
  decimal_some = (decimal_is_IsNumeral n (omega arith)).0.0

  pub numeral-decimal : numeral 10 (decimal n) ≡ Some n
  numeral-decimal = numeral_is 10 (decimal n) decimal_some ∙ number_behind-digits 0 (decimal n) decimal_digits ∙ ap Some (decimal_is_IsNumeral n (omega arith)).1

-- digits that do not begin with 0 are read as decimal
leading : (ds : List ℕ) → AllDigits 10 ds → 48 < get_or ds 0 0 → number_of ds ≡ at_most 4294967295 (numeral 10 ds)
leading [] all first = absurd (omega arith)
leading (c ∷ cs) all first =
    let other : nat_eq 48 c ≡ false = ne_eqb 48 c (λ e. absurd (omega arith)) in
    rw other refl

-- a number as it is printed is read
pub number_of-decimal : (n : ℕ) → n < 2 ^ 32 → number_of (decimal n) ≡ Some n
number_of-decimal zero small = ap number_of (decimal_digit 0 (omega arith))
number_of-decimal (suc n) small =
    leading (decimal (suc n)) (decimal_digits (suc n) small) (first_decimal (suc n) (omega arith) (omega arith))
    ∙ ap (at_most 4294967295) (numeral-decimal (suc n) small) ∙ rw (le-leb (suc n) 4294967295 (omega arith)) refl

-- and so is an octet of an address
pub octet-decimal : (n : ℕ) → n < 256 → octet 10 3 (decimal n) ≡ Some n
octet-decimal n small = rw (le-leb (length (decimal n)) 3 (length-decimal-le 3 n (omega arith) (omega arith) (omega arith)), numeral-decimal n (omega arith), le-leb n 255 (omega arith)) refl
