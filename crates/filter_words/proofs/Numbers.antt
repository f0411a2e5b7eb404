-- Numbers, bit by bit.
use Rattle.std.proofs.Common.{◌≡◌, ℕ, zero, suc, ◌+◌, ◌*◌, ◌%◌, ◌^◌, ◌<◌, Bool, true, false, refl, sym, ap, ◌∙◌, arith, subst}
use Rattle.std.specs.Prelude.{◌==◌, if◌then◌else◌, nat_lt, nat_le, bit_and, bit_or, bit_xor, not}
use Rattle.std.proofs.lemmas.Bool.Decides.{nat_tests}
use Rattle.std.proofs.lemmas.Nat.{and_block, or_block, xor_block, mod-mul-add}
use Rattle.std.proofs.Math.Nat.{pow-suc}
use Rattle.std.proofs.Math.Numerals.{add-one}
use Rattle.filter_bdd.specs.declared.answer.Operation.{Operation}
use Rattle.filter_bdd.specs.declared.answer.Operation.TheVariants.{And, Or, Xor}
use Rattle.filter_bdd.specs.Answers.{differs}
use Rattle.filter_bdd.specs.Fields.{is_set, digit}
use Rattle.filter_bdd.proofs.Numbers.{number-more}
use Rattle.filter_words.specs.Words.{number}
use Rattle.filter_words.specs.Steps.{joined_bit, chosen, sum_bit, carry_bit, carries, is_above, ordered, are_equal}

below-step : (x p : ℕ) (b : Bool) → x < p → x + p * digit b < p * 2
below-step x p true less = omega arith
below-step x p false less = omega arith

pub number-below : (bits : ℕ → Bool) (n : ℕ) → number bits n < 2 ^ n
unfolding number
number-below bits zero = omega arith
number-below bits (suc k) = subst (λ m. number bits (suc k) < m) (sym (pow-suc 2 k)) (below-step (number bits k) (2 ^ k) (bits k) (number-below bits k))

-- the same bits are the same number
pub number-same : (a b : ℕ → Bool) (n : ℕ) → ((k : ℕ) → k < n → a k ≡ b k) → number a n ≡ number b n
unfolding number
number-same a b zero same = refl
number-same a b (suc n) same =
    ap (λ m. m + 2 ^ n * digit (a n)) (number-same a b n (λ k less. same k (omega arith)))
    ∙ ap (λ c. number b n + 2 ^ n * digit c) (same n (omega arith))

-- the bits of a number are it
pub number-set : (m n : ℕ) → number (is_set m) n ≡ m % 2 ^ n
unfolding number
number-set m zero = let e : 0 ≡ m % 1 = omega arith in e
number-set m (suc k) = ap (λ x. x + 2 ^ k * digit (is_set m k)) (number-set m k) ∙ sym (number-more m k) ∙ ap (λ n. m % 2 ^ n) (add-one k)

-- ---- Bit by bit

abbrev HasBlocks : (ℕ → ℕ → ℕ) → Type 0
HasBlocks f = (k a b r s : ℕ) → r < 2 ^ k → s < 2 ^ k → f (a * 2 ^ k + r) (b * 2 ^ k + s) ≡ f a b * 2 ^ k + f r s

turned : (x p d : ℕ) → x + p * d ≡ d * p + x
turned x p d = omega arith

number-joined : (o : Operation) (f : ℕ → ℕ → ℕ) → 0 ≡ f 0 0 → HasBlocks f → ((a b : Bool) → digit (joined_bit o a b) ≡ f (digit a) (digit b))
    → (a b : ℕ → Bool) (n : ℕ) → number (λ k. joined_bit o (a k) (b k)) n ≡ f (number a n) (number b n)
unfolding number
number-joined o f none blocks each a b zero = none
number-joined o f none blocks each a b (suc k) =
    let p = 2 ^ k in
    let x = number a k in
    let y = number b k in
    let d = digit (a k) in
    let e = digit (b k) in
    ap (λ m. m + p * digit (joined_bit o (a k) (b k))) (number-joined o f none blocks each a b k)
    ∙ ap (λ m. f x y + p * m) (each (a k) (b k))
    ∙ turned (f x y) p (f d e)
    ∙ sym (blocks k d e x y (number-below a k) (number-below b k))
    ∙ ap (λ m. f m (e * p + y)) (sym (turned x p d))
    ∙ ap (λ m. f (x + p * d) m) (sym (turned y p e))

and-each : (a b : Bool) → digit (joined_bit And a b) ≡ bit_and (digit a) (digit b)
and-each true true = refl
and-each true false = refl
and-each false true = refl
and-each false false = refl

or-each : (a b : Bool) → digit (joined_bit Or a b) ≡ bit_or (digit a) (digit b)
or-each true true = refl
or-each true false = refl
or-each false true = refl
or-each false false = refl

xor-each : (a b : Bool) → digit (joined_bit Xor a b) ≡ bit_xor (digit a) (digit b)
xor-each true true = refl
xor-each true false = refl
xor-each false true = refl
xor-each false false = refl

pub number-and : (a b : ℕ → Bool) (n : ℕ) → number (λ k. joined_bit And (a k) (b k)) n ≡ bit_and (number a n) (number b n)
number-and a b n = number-joined And bit_and refl and_block and-each a b n

pub number-or : (a b : ℕ → Bool) (n : ℕ) → number (λ k. joined_bit Or (a k) (b k)) n ≡ bit_or (number a n) (number b n)
number-or a b n = number-joined Or bit_or refl or_block or-each a b n

pub number-xor : (a b : ℕ → Bool) (n : ℕ) → number (λ k. joined_bit Xor (a k) (b k)) n ≡ bit_xor (number a n) (number b n)
number-xor a b n = number-joined Xor bit_xor refl xor_block xor-each a b n

not-step : (p x y : ℕ) (b : Bool) → x + y + 1 ≡ p → (x + p * digit (not b)) + (y + p * digit b) + 1 ≡ p * 2
not-step p x y true e = omega arith
not-step p x y false e = omega arith

-- a number and the one of the opposite bits
pub number-not : (a : ℕ → Bool) (n : ℕ) → number (λ k. not (a k)) n + number a n + 1 ≡ 2 ^ n
unfolding number
number-not a zero = refl
number-not a (suc k) = not-step (2 ^ k) (number (λ j. not (a j)) k) (number a k) (a k) (number-not a k) ∙ sym (pow-suc 2 k)

pub number-chosen : (t : Bool) (a b : ℕ → Bool) (n : ℕ) → number (λ k. chosen t (a k) (b k)) n ≡ (if t then number a n else number b n)
number-chosen true a b n = refl
number-chosen false a b n = refl

-- ---- Sums

full-step : (p x y s d : ℕ) (a b c : Bool) → s + p * digit c ≡ x + y + d
    → (s + p * digit (sum_bit a b c)) + (p * 2) * digit (carry_bit a b c) ≡ (x + p * digit a) + (y + p * digit b) + d
full-step p x y s d true true true e = omega arith
full-step p x y s d true true false e = omega arith
full-step p x y s d true false true e = omega arith
full-step p x y s d true false false e = omega arith
full-step p x y s d false true true e = omega arith
full-step p x y s d false true false e = omega arith
full-step p x y s d false false true e = omega arith
full-step p x y s d false false false e = omega arith

-- the bits of a sum are it, with what is carried out of them
number-sum : (a b : ℕ → Bool) (first : Bool) (n : ℕ)
    → number (λ k. sum_bit (a k) (b k) (carries a b first k)) n + 2 ^ n * digit (carries a b first n) ≡ number a n + number b n + digit first
unfolding number carries
number-sum a b first zero = let e : 0 + 1 * digit first ≡ 0 + 0 + digit first = omega arith in e
number-sum a b first (suc k) =
    let s = λ (j : ℕ). sum_bit (a j) (b j) (carries a b first j) in
    ap (λ q. number s (suc k) + q * digit (carries a b first (suc k))) (pow-suc 2 k)
    ∙ full-step (2 ^ k) (number a k) (number b k) (number s k) (digit first) (a k) (b k) (carries a b first k) (number-sum a b first k)

pub low-of : (x p d m : ℕ) → x < p → x + p * d ≡ m → x ≡ m % p
low-of x p d m less e = sym (mod-mul-add d p x less) ∙ ap (λ z. z % p) (let f : d * p + x ≡ m = omega arith in f)

pub sum-value : (a b : ℕ → Bool) (first : Bool) (n : ℕ)
    → number (λ k. sum_bit (a k) (b k) (carries a b first k)) n ≡ (number a n + number b n + digit first) % 2 ^ n
sum-value a b first n =
    let s = λ (j : ℕ). sum_bit (a j) (b j) (carries a b first j) in
    low-of (number s n) (2 ^ n) (digit (carries a b first n)) (number a n + number b n + digit first) (number-below s n) (number-sum a b first n)

pub carries-more : (a b : ℕ → Bool) (first : Bool) (k : ℕ) → carries a b first (k + 1) ≡ carry_bit (a k) (b k) (carries a b first k)
unfolding carries
carries-more a b first k = ap (carries a b first) (add-one k)

pub carries-none : (a b : ℕ → Bool) (first : Bool) → carries a b first 0 ≡ first
unfolding carries
carries-none a b first = refl

-- ---- Orders

lt-high : (x y p : ℕ) → x < p → true ≡ nat_lt (x + p * 0) (y + p * 1)
lt-high x y p less = grind (arith, nat_tests)

lt-low : (x y p : ℕ) → x < p → false ≡ nat_lt (y + p * 1) (x + p * 0)
lt-low x y p less = grind (arith, nat_tests)

le-high : (x y p : ℕ) → x < p → true ≡ nat_le (x + p * 0) (y + p * 1)
le-high x y p less = grind (arith, nat_tests)

le-low : (x y p : ℕ) → x < p → false ≡ nat_le (y + p * 1) (x + p * 0)
le-low x y p less = grind (arith, nat_tests)

lt-both : (x y q : ℕ) → nat_lt x y ≡ nat_lt (x + q) (y + q)
lt-both x y q = grind (arith, nat_tests)

le-both : (x y q : ℕ) → nat_le x y ≡ nat_le (x + q) (y + q)
le-both x y q = grind (arith, nat_tests)

eq-both : (x y q : ℕ) → (x == y) ≡ ((x + q) == (y + q))
eq-both x y q = grind (arith, nat_tests)

eq-high : (x y p : ℕ) → x < p → false ≡ ((x + p * 0) == (y + p * 1))
eq-high x y p less = grind (arith, nat_tests)

eq-low : (x y p : ℕ) → x < p → false ≡ ((y + p * 1) == (x + p * 0))
eq-low x y p less = grind (arith, nat_tests)

above-step : (equal : Bool) (x y p : ℕ) (a b : Bool) → x < p → y < p → chosen (differs a b) a (ordered equal x y) ≡ ordered equal (x + p * digit a) (y + p * digit b)
above-step true x y p true true lx ly = le-both y x (p * 1)
above-step true x y p true false lx ly = le-high y x p ly
above-step true x y p false true lx ly = le-low x y p lx
above-step true x y p false false lx ly = le-both y x (p * 0)
above-step false x y p true true lx ly = lt-both y x (p * 1)
above-step false x y p true false lx ly = lt-high y x p ly
above-step false x y p false true lx ly = lt-low x y p lx
above-step false x y p false false lx ly = lt-both y x (p * 0)

above-none : (equal : Bool) → equal ≡ ordered equal 0 0
above-none true = refl
above-none false = refl

-- the highest bit that is not the same says which number is above
pub above-value : (a b : ℕ → Bool) (equal : Bool) (n : ℕ) → is_above a b equal n ≡ ordered equal (number a n) (number b n)
unfolding number is_above
above-value a b equal zero = above-none equal
above-value a b equal (suc k) =
    ap (chosen (differs (a k) (b k)) (a k)) (above-value a b equal k)
    ∙ above-step equal (number a k) (number b k) (2 ^ k) (a k) (b k) (number-below a k) (number-below b k)

pub above-more : (a b : ℕ → Bool) (equal : Bool) (k : ℕ) → is_above a b equal (k + 1) ≡ chosen (differs (a k) (b k)) (a k) (is_above a b equal k)
unfolding is_above
above-more a b equal k = ap (is_above a b equal) (add-one k)

pub above-start : (a b : ℕ → Bool) (equal : Bool) → is_above a b equal 0 ≡ equal
unfolding is_above
above-start a b equal = refl

equal-step : (x y p : ℕ) (a b : Bool) → x < p → y < p → chosen (differs a b) false (x == y) ≡ ((x + p * digit a) == (y + p * digit b))
equal-step x y p true true lx ly = eq-both x y (p * 1)
equal-step x y p true false lx ly = eq-low y x p ly
equal-step x y p false true lx ly = eq-high x y p lx
equal-step x y p false false lx ly = eq-both x y (p * 0)

pub equal-value : (a b : ℕ → Bool) (n : ℕ) → are_equal a b n ≡ (number a n == number b n)
unfolding number are_equal
equal-value a b zero = refl
equal-value a b (suc k) =
    ap (chosen (differs (a k) (b k)) false) (equal-value a b k)
    ∙ equal-step (number a k) (number b k) (2 ^ k) (a k) (b k) (number-below a k) (number-below b k)

pub equal-more : (a b : ℕ → Bool) (k : ℕ) → are_equal a b (k + 1) ≡ chosen (differs (a k) (b k)) false (are_equal a b k)
unfolding are_equal
equal-more a b k = ap (are_equal a b) (add-one k)

pub equal-start : (a b : ℕ → Bool) → are_equal a b 0 ≡ true
unfolding are_equal
equal-start a b = refl

pub number-more-bits : (a : ℕ → Bool) (k : ℕ) → number a (k + 1) ≡ number a k + 2 ^ k * digit (a k)
unfolding number
number-more-bits a k = ap (number a) (add-one k)

-- ---- Constants

pub number-none : (bits : ℕ → Bool) → number bits 0 ≡ 0
unfolding number
number-none bits = refl

-- a number with one more bit that is known
pub number-known : (bits : ℕ → Bool) (b : Bool) (k n m : ℕ) → number bits k ≡ n → bits k ≡ b → m ≡ n + 2 ^ k * digit b → number bits (k + 1) ≡ m
unfolding number
number-known bits b k n m low here is =
    ap (number bits) (add-one k) ∙ ap (λ x. x + 2 ^ k * digit (bits k)) low ∙ ap (λ c. n + 2 ^ k * digit c) here ∙ sym is
