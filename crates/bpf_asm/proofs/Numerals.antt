-- A number's digits from the left.
use Rattle.std.proofs.Common.{◌≡◌, ℕ, ◌+◌, ◌*◌, ◌<◌, ◌≤◌, Bool, true, false, cond, List, [], ◌∷◌, Some, None, length, drop, get_or, refl, sym, ap, ◌∙◌, arith, le-leb, lt-ltb}
use Rattle.std.specs.Char.{is_digit, digit_value}
use Rattle.std.proofs.lemmas.List.{at_drop_more, at_drop_all}
use Rattle.std.proofs.lemmas.Bool.Decides.{nat_tests}
use Rattle.bpf_asm.specs.Numbers.{at_most, number_after, numeral}

-- a number above the limit stays above it, whatever follows
pub too_great : (limit base n : ℕ) (bs : List ℕ) → 0 < base → limit < n → at_most limit (number_after base n bs) ≡ None
too_great limit base n [] positive above = above_limit
  where
    above_limit : at_most limit (Some n) ≡ None
    above_limit = grind (arith, nat_tests)
too_great limit base n (b ∷ bs) positive above = digit_cases (is_digit b base) (too_great limit base (n * base + digit_value b) bs positive grows)
  where
    grows : limit < n * base + digit_value b
    grows = grind arith

    digit_cases : (is : Bool) → at_most limit (number_after base (n * base + digit_value b) bs) ≡ None → at_most limit (cond is (number_after base (n * base + digit_value b) bs) None) ≡ None
    digit_cases true h = h
    digit_cases false h = refl

-- bytes that are there are a numeral after 0
pub numeral_is : (base : ℕ) (bs : List ℕ) → 0 < length bs → numeral base bs ≡ number_after base 0 bs
numeral_is base [] nonempty = absurd (omega arith)
numeral_is base (b ∷ bs) nonempty = refl

-- one digit more
number_after-digit : (base n b : ℕ) (bs : List ℕ) → digit_value b < base → number_after base n (b ∷ bs) ≡ number_after base (n * base + digit_value b) bs
number_after-digit base n b bs is = rw (lt-ltb (digit_value b) base is) refl

-- a digit that takes the number above the limit ends it
pub overflows : (limit base n : ℕ) (bs : List ℕ) (i b : ℕ) → 0 < base → i < length bs → b ≡ get_or bs i 0 → digit_value b < base → limit < n * base + digit_value b → number_after base n (drop i bs) ≡ number_after base 0 bs → at_most limit (numeral base bs) ≡ None
overflows limit base n bs i b positive inside here is above so_far =
    ap (at_most limit) (numeral_is base bs (omega arith) ∙ sym so_far ∙ at_drop_more (number_after base n) bs i 0 inside ∙ ap (λ x. number_after base n (x ∷ drop (i + 1) bs)) (sym here) ∙ number_after-digit base n b (drop (i + 1) bs) is)
    ∙ too_great limit base (n * base + digit_value b) (drop (i + 1) bs) positive above

-- after the last digit the number is read
pub numeral_read : (limit base n : ℕ) (bs : List ℕ) (i : ℕ) → 0 < length bs → length bs ≤ i → n ≤ limit → number_after base n (drop i bs) ≡ number_after base 0 bs → Some n ≡ at_most limit (numeral base bs)
numeral_read limit base n bs i nonempty over fits so_far =
    sym (ap (at_most limit) (numeral_is base bs nonempty ∙ sym so_far ∙ at_drop_all (number_after base n) bs i over) ∙ fits_limit)
  where
    fits_limit : at_most limit (Some n) ≡ Some n
    fits_limit = rw (le-leb n limit fits) refl
