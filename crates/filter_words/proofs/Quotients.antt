-- Quotients and rests, bit by bit.
use Rattle.std.proofs.Common.{◌≡◌, ℕ, zero, suc, ◌+◌, ◌-◌, ◌*◌, ◌/◌, ◌%◌, ◌^◌, ◌<◌, ◌≤◌, inl, inr, Bool, true, false, List, refl, sym, ap, ◌∙◌, arith, subst}
use Rattle.std.specs.Prelude.{slice_index, if◌then◌else◌, nat_le, ◌==◌, Some, None, IfSome}
use Rattle.std.proofs.lemmas.Bool.{cases_lt}
use Rattle.std.proofs.lemmas.Bool.Decides.{nat_tests}
use Rattle.std.proofs.lemmas.Nat.{div-mul-add, mod-mul-add, mul-le}
use Rattle.std.proofs.Math.Nat.{mod-eq_of_lt, pow-le-pow_right}
use Rattle.filter_bdd.specs.declared.answer.Operation.TheVariants.{Or}
use Rattle.filter_bdd.specs.declared.table.Node.{Node}
use Rattle.filter_bdd.specs.Fields.{digit}
use Rattle.filter_words.specs.declared.word.Word.{Word}
use Rattle.filter_words.specs.Words.{number, bit, Says, IsBit, word_bit, IsWord, value, HasValue}
use Rattle.filter_words.specs.Steps.{joined_bit, pushed}
use Rattle.filter_words.specs.Division.{IsDivided}
use Rattle.filter_words.proofs.Numbers.{number-below, number-same, low-of}
use Rattle.filter_words.proofs.Shifts.{number-split, below-true, below-false}
use Rattle.filter_words.proofs.Nodes.{has-value}

-- ---- One more bit below

number-one : (a : ℕ → Bool) → number a 1 ≡ digit (a 0)
unfolding number
number-one a = let e : 0 + 1 * digit (a 0) ≡ digit (a 0) = omega arith in e

pub digit-small : (b : Bool) → digit b < 2
digit-small true = omega arith
digit-small false = omega arith

push-core : (d h x n : ℕ) → n ≡ h + 2 ^ 31 * x → d < 2 → h < 2 ^ 31 → d + 2 ^ 1 * h ≡ (2 * n + d) % 2 ^ 32
push-core d h x n e small less = low-of (d + 2 ^ 1 * h) (2 ^ 32) x (2 * n + d) (omega arith) (omega arith)

push-number : (item : Bool) (word : ℕ → Bool) → number (pushed item word) 32 ≡ (2 * number word 32 + digit item) % 2 ^ 32
push-number item word =
    let r = pushed item word in
    let high : number (λ k. r (1 + k)) 31 ≡ number word 31 = number-same (λ k. r (1 + k)) word 31
    (λ k less. ap (λ (c : Bool). if c then item else word (1 + k - 1)) (below-false (1 + k) 1 (omega arith)) ∙ ap word (let e : 1 + k - 1 ≡ k = omega arith in e)) in
    number-split r 1 31 ∙ ap (λ n. n + 2 ^ 1 * number (λ k. r (1 + k)) 31) (number-one r) ∙ ap (λ n. digit item + 2 ^ 1 * n) high
    ∙ push-core (digit item) (number word 31) (number (λ k. word (31 + k)) 1) (number word 32) (number-split word 31 1) (digit-small item) (number-below word 31)

push-says : (a : List Node) (x : Word) (node k : ℕ) → k < 32 → IsWord a x → IsBit a node
    → Says a (λ v. pushed (bit a v node) (word_bit a v x) k) (pushed node (slice_index x.bits) k)
push-says a x node k less hx hn = elim (cases_lt k 1) [
  | inl below ↦ subst (λ (c : Bool). Says a (λ v. if c then bit a v node else word_bit a v x (k - 1)) (if c then node else slice_index x.bits (k - 1))) (sym (below-true k 1 below)) hn
  | inr above ↦ subst (λ (c : Bool). Says a (λ v. if c then bit a v node else word_bit a v x (k - 1)) (if c then node else slice_index x.bits (k - 1)))
      (sym (below-false k 1 above)) (hx (k - 1) (omega arith))
]

pub push-value : (a : List Node) (x w : Word) (node : ℕ) → ((k : ℕ) → k < 32 → slice_index w.bits k ≡ pushed node (slice_index x.bits) k) → IsWord a x → IsBit a node
    → HasValue a (λ v. (2 * value a v x + digit (bit a v node)) % 2 ^ 32) w
unfolding value
push-value a x w node same hx hn =
    has-value a (λ v k. pushed (bit a v node) (word_bit a v x) k) (λ v. (2 * value a v x + digit (bit a v node)) % 2 ^ 32) w
    (λ k less. subst (Says a (λ v. pushed (bit a v node) (word_bit a v x) k)) (sym (same k less)) (push-says a x node k less hx hn))
    (λ v. push-number (bit a v node) (word_bit a v x))

pub push-low : (item : ℕ) (word : ℕ → ℕ) (k : ℕ) → k < 1 → item ≡ pushed item word k
push-low item word k less = sym (ap (λ (c : Bool). if c then item else word (k - 1)) (below-true k 1 less))

pub push-high : (item : ℕ) (word : ℕ → ℕ) (k : ℕ) → 1 ≤ k → word (k - 1) ≡ pushed item word k
push-high item word k more = sym (ap (λ (c : Bool). if c then item else word (k - 1)) (below-false k 1 more))

-- ---- One step of a division

-- the divisor fits into the rest, and one more bit below it
goes : (n b q r d m l p : ℕ) → IsDivided n b q r → d < 2 → 2 * n + d < 2 ^ 32 → b < 2 ^ 32 → b ≤ 2 * r + d
    → m ≡ (2 * r + d) % 2 ^ 32 → l ≡ (m + (2 ^ 32 - b)) % 2 ^ 32 → p ≡ (2 * q + 1) % 2 ^ 32 → IsDivided (2 * n + d) b p l
goes n b q r d m l p h small fits lb more em el ep =
    let whole = h.whole in
    let less = h.less in
    let product : (2 * q + 1) * 1 ≤ (2 * q + 1) * b = mul-le (2 * q + 1) 1 (2 * q + 1) b (omega arith) (omega arith) in
    let below : 2 * q + 1 < 2 ^ 32 = omega arith in
    let quotient : p ≡ 2 * q + 1 = ep ∙ mod-eq_of_lt below in
    let rest : l ≡ 2 * r + d - b = omega arith in
    let same : 2 * n + d ≡ (2 * q + 1) * b + (2 * r + d - b) = omega arith in
    record {
      whole = same ∙ ap (λ x. x * b + (2 * r + d - b)) (sym quotient) ∙ ap (λ x. p * b + x) (sym rest);
      less = omega arith;
    }

-- it does not
stays : (n b q r d m p : ℕ) → IsDivided n b q r → 2 * n + d < 2 ^ 32 → b < 2 ^ 32 → 2 * r + d < b
    → m ≡ (2 * r + d) % 2 ^ 32 → p ≡ (2 * q + 0) % 2 ^ 32 → IsDivided (2 * n + d) b p m
stays n b q r d m p h fits lb less em ep =
    let whole = h.whole in
    let product : (2 * q) * 1 ≤ (2 * q) * b = mul-le (2 * q) 1 (2 * q) b (omega arith) (omega arith) in
    let below : 2 * q + 0 < 2 ^ 32 = omega arith in
    let quotient : p ≡ 2 * q = ep ∙ mod-eq_of_lt below ∙ (let e : 2 * q + 0 ≡ 2 * q = omega arith in e) in
    let rest : m ≡ 2 * r + d = omega arith in
    let same : 2 * n + d ≡ (2 * q) * b + (2 * r + d) = omega arith in
    record {
      whole = same ∙ ap (λ x. x * b + (2 * r + d)) (sym quotient) ∙ ap (λ x. p * b + x) (sym rest);
      less = subst (λ x. x < b) (sym rest) less;
    }

pub divided-step : (n b q r d m l p s h : ℕ) (top fits : Bool) → IsDivided n b q r → d < 2 → 2 * n + d < 2 ^ 32 → b < 2 ^ 32
    → r ≡ h + 2 ^ 31 * digit top → h < 2 ^ 31 → m ≡ (2 * r + d) % 2 ^ 32 → fits ≡ nat_le b m → l ≡ (m + (2 ^ 32 - b)) % 2 ^ 32
    → p ≡ (2 * q + digit (joined_bit Or top fits)) % 2 ^ 32 → s ≡ (if joined_bit Or top fits then l else m) → IsDivided (2 * n + d) b p s
divided-step n b q r d m l p s h true fits divided small whole lb er lh em ef el ep es =
    subst (IsDivided (2 * n + d) b p) (sym es) (goes n b q r d m l p divided small whole lb (omega arith) em el ep)
divided-step n b q r d m l p s h false true divided small whole lb er lh em ef el ep es =
    let less = divided.less in
    let fit : b ≤ m = grind (arith, nat_tests) in
    let same : m ≡ 2 * r + d = omega arith in
    subst (IsDivided (2 * n + d) b p) (sym es) (goes n b q r d m l p divided small whole lb (omega arith) em el ep)
divided-step n b q r d m l p s h false false divided small whole lb er lh em ef el ep es =
    let less = divided.less in
    let fit : m < b = grind (arith, nat_tests) in
    let same : m ≡ 2 * r + d = omega arith in
    subst (IsDivided (2 * n + d) b p) (sym es) (stays n b q r d m p divided whole lb (omega arith) em ep)

-- ---- The bits of a dividend, from the highest on

-- the number that the highest i bits are
abbrev pub highest : (ℕ → Bool) → ℕ → ℕ
highest a i = number (λ k. a (32 - i + k)) i

pub highest-more : (a : ℕ → Bool) (i : ℕ) → i < 32 → 2 * highest a i + digit (a (31 - i)) ≡ highest a (i + 1)
highest-more a i less =
    let f = λ (k : ℕ). a (32 - (i + 1) + k) in
    let here : 32 - (i + 1) + 0 ≡ 31 - i = omega arith in
    let turned : 1 + i ≡ i + 1 = omega arith in
    let low : number f 1 ≡ digit (a (31 - i)) = number-one f ∙ ap (λ k. digit (a k)) here in
    let high : number (λ k. f (1 + k)) i ≡ highest a i = number-same (λ k. f (1 + k)) (λ k. a (32 - i + k)) i
    (λ k small. ap a (let e : 32 - (i + 1) + (1 + k) ≡ 32 - i + k = omega arith in e)) in
    let sums : (x y : ℕ) → 2 * x + y ≡ y + 2 ^ 1 * x = λ x y. omega arith in
    sums (highest a i) (digit (a (31 - i)))
    ∙ sym (ap (number f) (sym turned) ∙ number-split f 1 i ∙ ap (λ n. n + 2 ^ 1 * number (λ k. f (1 + k)) i) low ∙ ap (λ n. digit (a (31 - i)) + 2 ^ 1 * n) high)

pub highest-below : (a : ℕ → Bool) (i : ℕ) → i < 32 → highest a (i + 1) < 2 ^ 32
highest-below a i less =
    let f = λ (k : ℕ). a (32 - (i + 1) + k) in
    let small : number f (i + 1) < 2 ^ (i + 1) = number-below f (i + 1) in
    let two : 0 < 2 = omega arith in
    let few : i + 1 ≤ 32 = omega arith in
    let most : 2 ^ (i + 1) ≤ 2 ^ 32 = pow-le-pow_right {n = 2} two {i = i + 1} {j = 32} few in
    omega arith

pub highest-none : (a : ℕ → Bool) → highest a 0 ≡ 0
unfolding number
highest-none a = refl

pub highest-all : (a : ℕ → Bool) → highest a 32 ≡ number a 32
highest-all a = number-same (λ k. a (32 - 32 + k)) a 32 (λ k less. ap a (let e : 0 + k ≡ k = omega arith in e))

-- ---- What the machine calculates

not-none : (b : ℕ) → (suc b == 0) ≡ false
not-none b = grind (arith, nat_tests)

pub quotient-is : (n b q r : ℕ) → (0 < b → IsDivided n b q r) → IfSome (if b == 0 then None else Some (n / b)) (λ m. q ≡ m)
quotient-is n zero q r h = tt
quotient-is n (suc b) q r h =
    let d = h (omega arith) in
    subst (λ (c : Bool). IfSome (if c then None else Some (n / suc b)) (λ m. q ≡ m)) (sym (not-none b)) (sym (ap (λ x. x / suc b) d.whole ∙ div-mul-add q (suc b) r d.less))

pub rest-is : (n b q r : ℕ) → (0 < b → IsDivided n b q r) → IfSome (if b == 0 then None else Some (n % b)) (λ m. r ≡ m)
rest-is n zero q r h = tt
rest-is n (suc b) q r h =
    let d = h (omega arith) in
    subst (λ (c : Bool). IfSome (if c then None else Some (n % suc b)) (λ m. r ≡ m)) (sym (not-none b)) (sym (ap (λ x. x % suc b) d.whole ∙ mod-mul-add q (suc b) r d.less))
