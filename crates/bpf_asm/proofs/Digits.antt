-- Digits, and the numbers that they are read as.
use Rattle.std.proofs.Common.{◌≡◌, ℕ, zero, suc, ◌+◌, ◌*◌, ◌-◌, ◌/◌, ◌%◌, ◌<◌, ◌≤◌, ◌^◌, Bool, true, false, not, ◌&&◌, ◌||◌, List, [], ◌∷◌, ◌++◌, Some, length, get_or, replicate, nat_eq, refl, sym, ap, ◌∙◌, subst, arith, le-leb, lt-ltb, ◌==◌, if◌then◌else◌, length-append}
use Rattle.std.specs.Prelude.{nat_lt, option_and_then}
use Rattle.std.specs.Char.{digit_value}
use Rattle.std.specs.Fmt.{decimal, digit_glyph, digits, digits_onto}
use Rattle.std.specs.List.{list_all}
use Rattle.std.specs.Str.Parse.{AllDigits, digits_value_after}
use Rattle.std.proofs.lemmas.Bool.{eqb-true, eqb-false, ne_eqb, ltb-true, ltb-false, le-ltb}
use Rattle.std.proofs.lemmas.Fmt.{decimal_is_IsNumeral, digits_is_IsNumeral, first_decimal, decimal_digit, length-decimal-le}
use Rattle.std.proofs.lemmas.List.{length-replicate}
use Rattle.std.proofs.lemmas.List.Folds.{list_all-append}
use Rattle.std.proofs.lemmas.Str.Parse.{digit_from_value}
use Rattle.bpfvm.specs.Images.{three_digits}
use Rattle.bpf_asm.specs.Numbers.{at_most, number_after, numeral, negative, decimal_of, number_of}

-- ---- Tests

-- both parts of a test that holds
pub both_true : (a b : Bool) → (a && b) ≡ true → (a ≡ true) × (b ≡ true)
both_true true b e = (refl, e)
both_true false b e = absurd cc

pub not_true : (b : Bool) → not b ≡ true → b ≡ false
not_true true e = absurd cc
not_true false e = refl

-- a test passes of each number below a bound
abbrev pub below : (ℕ → Bool) → ℕ → Bool
below p zero = true
below p (suc n) = p n && below p n

-- so it passes of any of them
pub below_all : (p : ℕ → Bool) (n : ℕ) → below p n ≡ true → (k : ℕ) → k < n → p k ≡ true
below_all p zero e k less = absurd (omega arith)
below_all p (suc n) e k less = at_test (k == n) refl (both_true (p n) (below p n) e) (below_all p n)
  where
    at_test : (b : Bool) → (k == n) ≡ b → (p n ≡ true) × (below p n ≡ true) → (below p n ≡ true → (j : ℕ) → j < n → p j ≡ true) → p k ≡ true
    at_test true same both before = subst (λ x. p x ≡ true) (sym (eqb-true k n same)) both.0
    at_test false other both before = let apart = eqb-false k n other in before both.1 k (omega arith)

-- ---- Digits

-- a digit of any base is ASCII
digit_small : (c : ℕ) → digit_value c < 36 → c < 123
digit_small c is = at_test (nat_lt c 123) refl
  where
    at_test : (b : Bool) → nat_lt c 123 ≡ b → c < 123
    at_test true less = ltb-true c 123 less
    at_test false more =
        let great = ltb-false c 123 more in
        let value : digit_value c ≡ 36 = rw (le-ltb c 48 (omega arith), le-ltb c 58 (omega arith), le-ltb c 65 (omega arith), le-ltb c 91 (omega arith), le-ltb c 97 (omega arith), le-ltb c 123 (omega arith)) refl in
        absurd (omega arith)

holds_if : (a b : Bool) → a ≡ true → (not a || b) ≡ true → b ≡ true
holds_if true b is e = e
holds_if false b is e = absurd cc

-- what each digit of a base passes, by looking at each ASCII code
abbrev pub of_base : (ℕ → Bool) → ℕ → ℕ → Bool
of_base p base c = not (nat_lt (digit_value c) base) || p c

of_digit : (p : ℕ → Bool) (base : ℕ) → base ≤ 36 → below (of_base p base) 123 ≡ true → (c : ℕ) → digit_value c < base → p c ≡ true
of_digit p base small e c is =
    holds_if (nat_lt (digit_value c) base) (p c) (lt-ltb (digit_value c) base is) (below_all (of_base p base) 123 e c (digit_small c (omega (arith, is, small))))

pub of_digits : (p : ℕ → Bool) (base : ℕ) → base ≤ 36 → below (of_base p base) 123 ≡ true → (ds : List ℕ) → AllDigits base ds → list_all p ds ≡ true
of_digits p base small e [] all = refl
of_digits p base small e (c ∷ cs) all = rw (of_digit p base small e c all.0, of_digits p base small e cs all.1) refl

-- what the ten digits pass
pub of_ten : (p : ℕ → Bool) → below (λ d. p (48 + d)) 10 ≡ true → (c : ℕ) → digit_value c < 10 → p c ≡ true
of_ten p e c is =
    let range = digit_from_value c is in
    let c_is : 48 + (c - 48) ≡ c = omega arith in
    subst (λ x. p x ≡ true) c_is (below_all (λ d. p (48 + d)) 10 e (c - 48) (omega arith))

-- ---- How many there are

length-digits_onto : (k base : ℕ) (upper : Bool) (n : ℕ) (acc : List ℕ) → length (digits_onto k base upper n acc) ≤ k + length acc
length-digits_onto zero base upper n acc = omega arith
length-digits_onto (suc k) base upper n acc = at_test (n / base == 0) (length-digits_onto k base upper (n / base) (digit_glyph upper (n % base) ∷ acc))
  where
    at_test : (b : Bool) → length (digits_onto k base upper (n / base) (digit_glyph upper (n % base) ∷ acc)) ≤ k + length (digit_glyph upper (n % base) ∷ acc)
        → length (if b then digit_glyph upper (n % base) ∷ acc else digits_onto k base upper (n / base) (digit_glyph upper (n % base) ∷ acc)) ≤ suc k + length acc
    at_test true h = omega arith
    at_test false h = omega (arith, h)

pub length-digits : (base : ℕ) (upper : Bool) (n : ℕ) → length (digits base upper n) ≤ 64
unfolding digits
length-digits base upper n = omega (arith, length-digits_onto 64 base upper n [])

-- ---- The numbers that they are

-- bytes that are there are a numeral
numeral_is : (base : ℕ) (bs : List ℕ) → 0 < length bs → numeral base bs ≡ number_after base 0 bs
numeral_is base [] some = absurd (omega arith)
numeral_is base (b ∷ bs) some = refl

number_after-digits : (base m : ℕ) (ds : List ℕ) → AllDigits base ds → number_after base m ds ≡ Some (digits_value_after base m ds)
number_after-digits base m [] all = refl
number_after-digits base m (c ∷ cs) all = rw (lt-ltb (digit_value c) base all.0) (number_after-digits base (m * base + digit_value c) cs all.1)

-- zeros in front change nothing
number_after-zeros : (z : ℕ) (ds : List ℕ) → number_after 10 0 (replicate z 48 ++ ds) ≡ number_after 10 0 ds
number_after-zeros zero ds = refl
number_after-zeros (suc z) ds = number_after-zeros z ds

-- a value within its bound stands
at_most_is : (n : ℕ) → n < 2 ^ 32 → at_most 4294967295 (Some n) ≡ Some n
at_most_is n small = rw (le-leb n 4294967295 (omega arith)) refl

-- a number as it is printed
module _ (n : ℕ) (small : n < 2 ^ 32) where
  pub decimal_digits : AllDigits 10 (decimal n)
  decimal_digits = (decimal_is_IsNumeral n (omega arith)).0.1

  pub decimal_some : 0 < length (decimal n)
  decimal_some = (decimal_is_IsNumeral n (omega arith)).0.0

  after-decimal : number_after 10 0 (decimal n) ≡ Some n
  after-decimal = number_after-digits 10 0 (decimal n) decimal_digits ∙ ap Some (decimal_is_IsNumeral n (omega arith)).1

  numeral-decimal : at_most 4294967295 (numeral 10 (decimal n)) ≡ Some n
  numeral-decimal = ap (at_most 4294967295) (numeral_is 10 (decimal n) decimal_some ∙ after-decimal) ∙ at_most_is n small

  pub hexadecimal_digits : AllDigits 16 (digits 16 false n)
  hexadecimal_digits = (digits_is_IsNumeral 16 false (omega arith) (omega arith) n (omega arith)).0.1

  pub numeral-hexadecimal : at_most 4294967295 (numeral 16 (digits 16 false n)) ≡ Some n
  numeral-hexadecimal =
      let is = digits_is_IsNumeral 16 false (omega arith) (omega arith) n (omega arith) in
      ap (at_most 4294967295) (numeral_is 16 (digits 16 false n) is.0.0 ∙ number_after-digits 16 0 (digits 16 false n) hexadecimal_digits ∙ ap Some is.1) ∙ at_most_is n small

-- digits that do not begin with 0 are read as decimal
leading : (ds : List ℕ) → 48 < get_or ds 0 0 → number_of ds ≡ at_most 4294967295 (numeral 10 ds)
leading [] first = absurd (omega arith)
leading (c ∷ cs) first =
    let zero_apart : nat_eq 48 c ≡ false = ne_eqb 48 c (λ e. absurd (omega arith)) in
    let minus_apart : nat_eq 45 c ≡ false = ne_eqb 45 c (λ e. absurd (omega arith)) in
    rw (zero_apart, minus_apart) refl

-- a decimal number is read as itself
pub number_of-decimal : (n : ℕ) → n < 2 ^ 32 → number_of (decimal n) ≡ Some n
number_of-decimal zero small = ap number_of (decimal_digit 0 (omega arith))
number_of-decimal (suc n) small = leading (decimal (suc n)) (first_decimal (suc n) (omega arith) (omega arith)) ∙ numeral-decimal (suc n) small

-- one with a minus sign as its negation
negative_is : (m : ℕ) → 0 < m → m ≤ 2147483648 → negative m ≡ Some (4294967296 - m)
negative_is m some fits = rw (ne_eqb m 0 (λ e. absurd (omega arith)), le-leb m 2147483648 fits) refl

pub number_of-negative : (n : ℕ) → 2 ^ 31 ≤ n → n < 2 ^ 32 → number_of (45 ∷ decimal (2 ^ 32 - n)) ≡ Some n
number_of-negative n great small =
    ap (λ o. option_and_then negative o) (numeral-decimal (2 ^ 32 - n) (omega arith))
    ∙ negative_is (2 ^ 32 - n) (omega arith) (omega arith) ∙ ap Some (omega arith)

-- a hexadecimal number too
pub number_of-hexadecimal : (n : ℕ) → n < 2 ^ 32 → number_of (48 ∷ 120 ∷ digits 16 false n) ≡ Some n
number_of-hexadecimal n small = numeral-hexadecimal n small

-- ---- Places

-- zeros and digits are digits
zeros_all : (p : ℕ → Bool) (z : ℕ) → p 48 ≡ true → list_all p (replicate z 48) ≡ true
zeros_all p zero is = refl
zeros_all p (suc z) is = rw (is, zeros_all p z is) refl

module _ (place : ℕ) (small : place < 1000) where
  pub place_all : (p : ℕ → Bool) → p 48 ≡ true → below (of_base p 10) 123 ≡ true → list_all p (three_digits place) ≡ true
  place_all p is e =
      let zeros = 3 - length (decimal place) in
      list_all-append p (replicate zeros 48) (decimal place)
      ∙ rw (zeros_all p zeros is, of_digits p 10 (omega arith) e (decimal place) (decimal_digits place (omega arith))) refl

  pub length-place : length (three_digits place) ≡ 3
  length-place =
      let zeros = 3 - length (decimal place) in
      let most = length-decimal-le 3 place (omega arith) (omega arith) (omega arith) in
      length-append (replicate zeros 48) (decimal place) ∙ ap (λ n. n + length (decimal place)) (length-replicate zeros 48) ∙ omega (arith, most)

  pub decimal_of-place : decimal_of (three_digits place) ≡ Some place
  decimal_of-place =
      ap (at_most 4294967295) (numeral_is 10 (three_digits place) (omega (arith, length-place)) ∙ number_after-zeros (3 - length (decimal place)) (decimal place) ∙ after-decimal place (omega arith))
      ∙ at_most_is place (omega arith)
