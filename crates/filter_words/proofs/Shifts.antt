-- Numbers whose bits are moved.
use Rattle.std.proofs.Common.{◌≡◌, ℕ, zero, suc, ◌+◌, ◌-◌, ◌*◌, ◌/◌, ◌%◌, ◌^◌, ◌<◌, ◌≤◌, Bool, true, false, refl, sym, ap, ◌∙◌, arith}
use Rattle.std.specs.Prelude.{if◌then◌else◌, nat_lt}
use Rattle.std.proofs.lemmas.Bool.Decides.{nat_tests}
use Rattle.std.proofs.lemmas.Nat.{mod-mul-add, div-mul-add, pow_pos, pow-add, mul-mod_first, shr-shr}
use Rattle.std.proofs.Math.Nat.{mul-lt-mul_of_pos_left, add-mod, mod-add-mod, zero-mod}
use Rattle.filter_bdd.specs.Fields.{digit}
use Rattle.filter_words.specs.declared.shift.Shift.{Shift}
use Rattle.filter_words.specs.declared.shift.Shift.TheVariants.{Left, Right}
use Rattle.filter_words.specs.Words.{number}
use Rattle.filter_words.specs.Steps.{moved, shifted}
use Rattle.filter_words.proofs.Numbers.{number-below, number-same}

regrouped : (x p n q d : ℕ) → (x + p * n) + (p * q) * d ≡ x + p * (n + q * d)
regrouped x p n q d = omega arith

-- the low bits of a number, and those above them
pub number-split : (a : ℕ → Bool) (s m : ℕ) → number a (s + m) ≡ number a s + 2 ^ s * number (λ k. a (s + k)) m
unfolding number
number-split a s zero =
    let e : s + 0 ≡ s = omega arith in
    let f : number a s ≡ number a s + 2 ^ s * 0 = omega arith in
    ap (number a) e ∙ f
number-split a s (suc m) =
    let e : s + suc m ≡ suc (s + m) = omega arith in
    let high = number (λ k. a (s + k)) m in
    ap (number a) e
    ∙ ap (λ n. n + 2 ^ (s + m) * digit (a (s + m))) (number-split a s m)
    ∙ ap (λ q. (number a s + 2 ^ s * high) + q * digit (a (s + m))) (pow-add 2 s m)
    ∙ regrouped (number a s) (2 ^ s) high (2 ^ m) (digit (a (s + m)))

pub number-none : (a : ℕ → Bool) (n : ℕ) → ((k : ℕ) → k < n → a k ≡ false) → number a n ≡ 0
unfolding number
number-none a zero none = refl
number-none a (suc n) none =
    let e : 0 + 2 ^ n * 0 ≡ 0 = omega arith in
    ap (λ m. m + 2 ^ n * digit (a n)) (number-none a n (λ k less. none k (omega arith)))
    ∙ ap (λ c. 0 + 2 ^ n * digit c) (none n (omega arith)) ∙ e

pub below-true : (k n : ℕ) → k < n → nat_lt k n ≡ true
below-true k n less = grind (arith, nat_tests)

pub below-false : (k n : ℕ) → n ≤ k → nat_lt k n ≡ false
below-false k n more = grind (arith, nat_tests)

moved-left : (p q x y : ℕ) → 0 < p → x < q → 0 + p * x ≡ ((x + q * y) * p) % (p * q)
moved-left p q x y pos less =
    let small : p * x < p * q = mul-lt-mul_of_pos_left less pos in
    let e : y * (p * q) + p * x ≡ (x + q * y) * p = omega arith in
    let f : 0 + p * x ≡ p * x = omega arith in
    f ∙ sym (mod-mul-add y (p * q) (p * x) small) ∙ ap (λ z. z % (p * q)) e

moved-right : (p x y : ℕ) → x < p → y ≡ (x + p * y) / p
moved-right p x y less =
    let e : y * p + x ≡ x + p * y = omega arith in
    sym (div-mul-add y p x less) ∙ ap (λ z. z / p) e

-- bits that are moved are the number that is shifted
moved-number : (shift : Shift) (a : ℕ → Bool) (s m : ℕ) → s + m ≡ 32 → number (moved shift a false s) 32 ≡ shifted shift (number a 32) s
moved-number Left a s m e =
    let r = moved Left a false s in
    let low : number r s ≡ 0 = number-none r s (λ k less. ap (λ (c : Bool). if c then false else a (k - s)) (below-true k s less)) in
    let high : number (λ k. r (s + k)) m ≡ number a m = number-same (λ k. r (s + k)) a m
    (λ k less. ap (λ (c : Bool). if c then false else a (s + k - s)) (below-false (s + k) s (omega arith)) ∙ ap a (let f : s + k - s ≡ k = omega arith in f)) in
    let x = number a m in
    let y = number (λ k. a (m + k)) s in
    let turned : m + s ≡ 32 = omega arith in
    let split : x + 2 ^ m * y ≡ number a 32 = sym (number-split a m s) ∙ ap (number a) turned in
    let whole : 2 ^ s * 2 ^ m ≡ 2 ^ 32 = sym (pow-add 2 s m) ∙ ap (λ k. 2 ^ k) e in
    ap (number r) (sym e) ∙ number-split r s m
    ∙ ap (λ n. n + 2 ^ s * number (λ k. r (s + k)) m) low
    ∙ ap (λ n. 0 + 2 ^ s * n) high
    ∙ moved-left (2 ^ s) (2 ^ m) x y (pow_pos s) (number-below a m)
    ∙ ap (λ z. (z * 2 ^ s) % (2 ^ s * 2 ^ m)) split
    ∙ ap (λ z. (number a 32 * 2 ^ s) % z) whole
moved-number Right a s m e =
    let r = moved Right a false s in
    let turned : m + s ≡ 32 = omega arith in
    let low : number r m ≡ number (λ k. a (s + k)) m = number-same r (λ k. a (s + k)) m
    (λ k less. ap (λ (c : Bool). if c then a (k + s) else false) (below-true (k + s) 32 (omega arith)) ∙ ap a (let f : k + s ≡ s + k = omega arith in f)) in
    let high : number (λ k. r (m + k)) s ≡ 0 = number-none (λ k. r (m + k)) s
    (λ k less. ap (λ (c : Bool). if c then a (m + k + s) else false) (below-false (m + k + s) 32 (omega arith))) in
    let x = number a s in
    let y = number (λ k. a (s + k)) m in
    let none : y + 2 ^ m * 0 ≡ y = omega arith in
    ap (number r) (sym turned) ∙ number-split r m s
    ∙ ap (λ n. n + 2 ^ m * number (λ k. r (m + k)) s) low
    ∙ ap (λ n. y + 2 ^ m * n) high
    ∙ none
    ∙ moved-right (2 ^ s) x y (number-below a s)
    ∙ ap (λ z. z / 2 ^ s) (sym (number-split a s m) ∙ ap (number a) e)

pub moved-value : (shift : Shift) (a : ℕ → Bool) (s : ℕ) → s < 32 → number (moved shift a false s) 32 ≡ shifted shift (number a 32) s
moved-value shift a s less = let e : s + (32 - s) ≡ 32 = omega arith in moved-number shift a s (32 - s) e

-- to shift twice is to shift by the sum
pub shifted-more : (shift : Shift) (n i j : ℕ) → shifted shift (shifted shift n i) j ≡ shifted shift n (i + j)
shifted-more Left n i j =
    let e : (n * 2 ^ i) * 2 ^ j ≡ n * (2 ^ i * 2 ^ j) = omega arith in
    mul-mod_first (n * 2 ^ i) (2 ^ j) (2 ^ 32) ∙ ap (λ z. z % 2 ^ 32) (e ∙ ap (λ z. n * z) (sym (pow-add 2 i j)))
shifted-more Right n i j = shr-shr n i j

-- a stage of a shift
pub shifted-stage : (shift : Shift) (n i p : ℕ) (b : Bool) → (if b then shifted shift (shifted shift n i) p else shifted shift n i) ≡ shifted shift n (i + p * digit b)
shifted-stage shift n i p true = let e : i + p ≡ i + p * 1 = omega arith in shifted-more shift n i p ∙ ap (shifted shift n) e
shifted-stage shift n i p false = let e : i ≡ i + p * 0 = omega arith in ap (shifted shift n) e

pub shifted-none : (shift : Shift) (n : ℕ) → n < 2 ^ 32 → shifted shift n 0 ≡ n
shifted-none Left n less = omega arith
shifted-none Right n less = omega arith

pub shifted-start : (shift : Shift) (n : ℕ) (a : ℕ → Bool) → n < 2 ^ 32 → shifted shift n (number a 0) ≡ n
unfolding number
shifted-start shift n a less = shifted-none shift n less

-- one more part of a product
pub product-part : (a n k p : ℕ) (b : Bool)
    → ((a * n) % p + (if b then (a * 2 ^ k) % p else 0)) % p ≡ (a * (n + 2 ^ k * digit b)) % p
product-part a n k p true =
    let e : a * n + a * 2 ^ k ≡ a * (n + 2 ^ k * 1) = omega arith in
    sym (add-mod (a * n) (a * 2 ^ k) p) ∙ ap (λ z. z % p) e
product-part a n k p false =
    let e : a * n + 0 ≡ a * (n + 2 ^ k * 0) = omega arith in
    mod-add-mod (a * n) p 0 ∙ ap (λ z. z % p) e

pub product-start : (a p : ℕ) (f : ℕ → Bool) → 0 ≡ (a * number f 0) % p
unfolding number
product-start a p f = let e : 0 ≡ a * 0 = omega arith in sym (zero-mod p) ∙ ap (λ z. z % p) e
