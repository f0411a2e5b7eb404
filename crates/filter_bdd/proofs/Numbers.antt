-- Numbers, bit by bit.
use Rattle.std.proofs.Common.{◌≡◌, ℕ, zero, suc, ◌+◌, ◌-◌, ◌*◌, ◌/◌, ◌%◌, ◌^◌, ◌<◌, Bool, true, false, cond, ◌&&◌, refl, sym, ap, ◌∙◌, arith, subst}
use Rattle.std.specs.Prelude.{◌==◌, if◌then◌else◌, nat_lt}
use Rattle.std.proofs.lemmas.Bool.Decides.{nat_tests}
use Rattle.std.proofs.lemmas.Nat.{mod-pow-add, mod_below, pow_pos}
use Rattle.std.proofs.Math.Nat.{pow-suc}
use Rattle.std.proofs.Math.Numerals.{add-one}
use Rattle.filter_bdd.specs.declared.answer.Answer.{Answer}
use Rattle.filter_bdd.specs.Fields.{is_set, digit, number_of, by_order, by_bits}

below-step : (x p : ℕ) (b : Bool) → x < p → x + p * digit b < p * 2
below-step x p true less = omega arith
below-step x p false less = omega arith

pub number-below : (v : ℕ → Bool) (last mask k : ℕ) → number_of v last mask k < 2 ^ k
number-below v last mask zero = omega arith
number-below v last mask (suc k) =
    subst (λ m. number_of v last mask (suc k) < m) (sym (pow-suc 2 k)) (below-step (number_of v last mask k) (2 ^ k) (is_set mask k && v (last - k)) (number-below v last mask k))

digit-two : (m : ℕ) → m < 2 → digit (m == 1) ≡ m
digit-two zero less = refl
digit-two (suc zero) less = refl
digit-two (suc (suc m)) less = absurd (omega arith)

pub digit-set : (n k : ℕ) → digit (is_set n k) ≡ n / 2 ^ k % 2
digit-set n k = digit-two (n / 2 ^ k % 2) (omega arith)

-- one more bit of a number
pub number-more : (n k : ℕ) → n % 2 ^ (k + 1) ≡ n % 2 ^ k + 2 ^ k * digit (is_set n k)
number-more n k =
    let turned : k + 1 ≡ 1 + k = omega arith in
    ap (λ m. n % 2 ^ m) turned ∙ mod-pow-add n 1 k
    ∙ (let p = 2 ^ k in let r = n % 2 ^ k in
    let step : (q d : ℕ) → d ≡ q → q * p + r ≡ r + p * d = λ q d e. subst (λ x. q * p + r ≡ r + p * x) (sym e) (omega arith) in
    step (n / 2 ^ k % 2) (digit (is_set n k)) (digit-set n k))

order-core : (less equal greater : Answer) (x a p : ℕ) → x < p → a < p → (b c : Bool)
    → by_bits b c less (by_order x a less equal greater) greater ≡ by_order (x + p * digit b) (a + p * digit c) less equal greater
order-core less equal greater x a p lx la false false =
    let e : x ≡ x + p * 0 = omega arith in
    let f : a ≡ a + p * 0 = omega arith in
    ap (λ n. by_order n a less equal greater) e ∙ ap (λ n. by_order (x + p * 0) n less equal greater) f
order-core less equal greater x a p lx la false true = grind (arith, nat_tests)
order-core less equal greater x a p lx la true false = grind (arith, nat_tests)
order-core less equal greater x a p lx la true true =
    let same : (m n : ℕ) → nat_lt m n ≡ nat_lt (m + p) (n + p) = λ m n. grind (arith, nat_tests) in
    let equals : (m n : ℕ) → (m == n) ≡ ((m + p) == (n + p)) = λ m n. grind (arith, nat_tests) in
    let e : x + p ≡ x + p * 1 = omega arith in
    let f : a + p ≡ a + p * 1 = omega arith in
    ap (λ t. if t then less else (if x == a then equal else greater)) (same x a)
    ∙ ap (λ t. if nat_lt (x + p) (a + p) then less else (if t then equal else greater)) (equals x a)
    ∙ ap (λ n. by_order n (a + p) less equal greater) e ∙ ap (λ n. by_order (x + p * 1) n less equal greater) f

-- with one more bit, the order is that of the bit, or of those below where the bits are the same
pub order-step : (v : ℕ → Bool) (last mask number k : ℕ) (less equal greater : Answer)
    → by_bits (is_set mask k && v (last - k)) (is_set number k) less (by_order (number_of v last mask k) (number % 2 ^ k) less equal greater) greater
    ≡ by_order (number_of v last mask (k + 1)) (number % 2 ^ (k + 1)) less equal greater
order-step v last mask number k less equal greater =
    order-core less equal greater (number_of v last mask k) (number % 2 ^ k) (2 ^ k) (number-below v last mask k) (mod_below number (2 ^ k) (pow_pos k))
    (is_set mask k && v (last - k)) (is_set number k)
    ∙ ap (λ n. by_order n (number % 2 ^ k + 2 ^ k * digit (is_set number k)) less equal greater) (ap (number_of v last mask) (sym (add-one k)))
    ∙ ap (λ n. by_order (number_of v last mask (k + 1)) n less equal greater) (sym (number-more number k))

pub order-more : (v : ℕ → Bool) (last mask number k : ℕ) (less equal greater below at above : Answer) (counts one : Bool)
    → counts ≡ is_set mask k → one ≡ is_set number k → below ≡ less → above ≡ greater
    → at ≡ by_order (number_of v last mask k) (number % 2 ^ k) less equal greater
    → by_bits (counts && v (last - k)) one below at above ≡ by_order (number_of v last mask (k + 1)) (number % 2 ^ (k + 1)) less equal greater
order-more v last mask number k less equal greater below at above counts one ec eo eb ea et =
    ap (λ x. by_bits (x && v (last - k)) one below at above) ec
    ∙ ap (λ x. by_bits (is_set mask k && v (last - k)) x below at above) eo
    ∙ ap (λ x. by_bits (is_set mask k && v (last - k)) (is_set number k) x at above) eb
    ∙ ap (λ x. by_bits (is_set mask k && v (last - k)) (is_set number k) less at x) ea
    ∙ ap (λ x. by_bits (is_set mask k && v (last - k)) (is_set number k) less x greater) et
    ∙ order-step v last mask number k less equal greater

-- with no bit two numbers are the same
pub order-none : (number : ℕ) (less equal greater : Answer) → by_order 0 (number % 2 ^ 0) less equal greater ≡ equal
order-none number less equal greater =
    let e : number % 2 ^ 0 ≡ 0 = omega arith in
    ap (λ n. by_order 0 n less equal greater) e

pub bits-one : (b : Bool) (less equal greater : Answer) → cond b equal less ≡ by_bits b true less equal greater
bits-one true less equal greater = refl
bits-one false less equal greater = refl

pub bits-zero : (b : Bool) (less equal greater : Answer) → cond b greater equal ≡ by_bits b false less equal greater
bits-zero true less equal greater = refl
bits-zero false less equal greater = refl

pub order-as : (x number : ℕ) (a b c less equal greater : Answer) → a ≡ less → b ≡ equal → c ≡ greater → by_order x number a b c ≡ by_order x number less equal greater
order-as x number a b c less equal greater ea eb ec =
    ap (λ k. by_order x number k b c) ea ∙ ap (λ k. by_order x number less k c) eb ∙ ap (λ k. by_order x number less equal k) ec
