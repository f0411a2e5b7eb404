-- Words of bits and of bytes.
use Rattle.std.proofs.Common.{◌≡◌, ℕ, ◌+◌, ◌-◌, ◌*◌, ◌%◌, ◌^◌, ◌<◌, ◌≤◌, inl, inr, Bool, false, List, length, sym, ap, ◌∙◌, arith, subst}
use Rattle.std.specs.Prelude.{slice_index, if◌then◌else◌}
use Rattle.std.proofs.lemmas.Bool.{cases_lt}
use Rattle.filter_bdd.specs.declared.table.Node.{Node}
use Rattle.filter_bdd.specs.Diagrams.{Grew}
use Rattle.filter_words.specs.declared.word.Word.{Word}
use Rattle.filter_words.specs.Words.{number, bit, Says, IsBit, word_bit, IsWord, value, HasValue}
use Rattle.filter_words.specs.Steps.{HasBits, padded, after_byte}
use Rattle.filter_words.proofs.Numbers.{number-below, number-same, low-of}
use Rattle.filter_words.proofs.Shifts.{number-split, number-none, below-true, below-false}
use Rattle.filter_words.proofs.Nodes.{says-grown, has-value}

-- bits that are padded by 0 are the same number
padded-number : (a : ℕ → Bool) (n m : ℕ) → n + m ≡ 32 → number (padded a false n) 32 ≡ number a n
padded-number a n m e =
    let r = padded a false n in
    let low : number r n ≡ number a n = number-same r a n (λ k less. ap (λ (c : Bool). if c then a k else false) (below-true k n less)) in
    let high : number (λ k. r (n + k)) m ≡ 0 = number-none (λ k. r (n + k)) m (λ k less. ap (λ (c : Bool). if c then a (n + k) else false) (below-false (n + k) n (omega arith))) in
    let none : number a n + 2 ^ n * 0 ≡ number a n = omega arith in
    ap (number r) (sym e) ∙ number-split r n m ∙ ap (λ x. x + 2 ^ n * number (λ k. r (n + k)) m) low ∙ ap (λ x. number a n + 2 ^ n * x) high ∙ none

pub padded-says : (a b : List Node) (nodes : List ℕ) (none k : ℕ) → Grew a b → ((j : ℕ) → j < length nodes → IsBit a (slice_index nodes j)) → Says b (λ v. false) none
    → Says b (λ v. padded (λ j. bit a v (slice_index nodes j)) false (length nodes) k) (padded (slice_index nodes) none (length nodes) k)
padded-says a b nodes none k g h hn = elim (cases_lt k (length nodes)) [
  | inl below ↦ subst (λ (c : Bool). Says b (λ v. if c then bit a v (slice_index nodes k) else false) (if c then slice_index nodes k else none))
      (sym (below-true k (length nodes) below)) (says-grown a b (λ v. bit a v (slice_index nodes k)) (slice_index nodes k) g (h k below))
  | inr above ↦ subst (λ (c : Bool). Says b (λ v. if c then bit a v (slice_index nodes k) else false) (if c then slice_index nodes k else none))
      (sym (below-false k (length nodes) above)) hn
]

pub padded-value : (a b : List Node) (nodes : List ℕ) (w : Word) → length nodes ≤ 32 → HasBits b (λ v k. padded (λ j. bit a v (slice_index nodes j)) false (length nodes) k) w
    → HasValue b (λ v. number (λ j. bit a v (slice_index nodes j)) (length nodes)) w
padded-value a b nodes w few h =
    let n = length nodes in
    let whole : n + (32 - n) ≡ 32 = omega arith in
    has-value b (λ v k. padded (λ j. bit a v (slice_index nodes j)) false n k) (λ v. number (λ j. bit a v (slice_index nodes j)) n) w h
    (λ v. padded-number (λ j. bit a v (slice_index nodes j)) n (32 - n) whole)

-- a byte has no bit above its eight
byte-core : (h x b y high byte : ℕ) → high ≡ h + 2 ^ 24 * x → byte ≡ b + 2 ^ 8 * y → byte < 256 → h < 2 ^ 24 → b < 2 ^ 8
    → b + 2 ^ 8 * h ≡ (256 * high + byte) % 2 ^ 32
byte-core h x b y high byte eh eb less lh lb =
    low-of (b + 2 ^ 8 * h) (2 ^ 32) x (256 * high + byte) (omega arith) (omega arith)

after-number : (byte word : ℕ → Bool) → number byte 32 < 256 → number (after_byte byte word) 32 ≡ (256 * number word 32 + number byte 32) % 2 ^ 32
after-number byte word less =
    let r = after_byte byte word in
    let low : number r 8 ≡ number byte 8 = number-same r byte 8 (λ k small. ap (λ (c : Bool). if c then byte k else word (k - 8)) (below-true k 8 small)) in
    let high : number (λ k. r (8 + k)) 24 ≡ number word 24 = number-same (λ k. r (8 + k)) word 24
    (λ k small. ap (λ (c : Bool). if c then byte (8 + k) else word (8 + k - 8)) (below-false (8 + k) 8 (omega arith)) ∙ ap word (let e : 8 + k - 8 ≡ k = omega arith in e)) in
    number-split r 8 24 ∙ ap (λ n. n + 2 ^ 8 * number (λ k. r (8 + k)) 24) low ∙ ap (λ n. number byte 8 + 2 ^ 8 * n) high
    ∙ byte-core (number word 24) (number (λ k. word (24 + k)) 8) (number byte 8) (number (λ k. byte (8 + k)) 24) (number word 32) (number byte 32)
    (number-split word 24 8) (number-split byte 8 24) less (number-below word 24) (number-below byte 8)

after-says : (a : List Node) (x y : Word) (k : ℕ) → k < 32 → IsWord a x → IsWord a y
    → Says a (λ v. after_byte (word_bit a v y) (word_bit a v x) k) (after_byte (slice_index y.bits) (slice_index x.bits) k)
after-says a x y k less hx hy = elim (cases_lt k 8) [
  | inl below ↦ subst (λ (c : Bool). Says a (λ v. if c then word_bit a v y k else word_bit a v x (k - 8)) (if c then slice_index y.bits k else slice_index x.bits (k - 8)))
      (sym (below-true k 8 below)) (hy k less)
  | inr above ↦ subst (λ (c : Bool). Says a (λ v. if c then word_bit a v y k else word_bit a v x (k - 8)) (if c then slice_index y.bits k else slice_index x.bits (k - 8)))
      (sym (below-false k 8 above)) (hx (k - 8) (omega arith))
]

pub after-value : (a : List Node) (x y w : Word) → ((k : ℕ) → k < 32 → slice_index w.bits k ≡ after_byte (slice_index y.bits) (slice_index x.bits) k) → IsWord a x → IsWord a y
    → ((v : ℕ → Bool) → value a v y < 256) → HasValue a (λ v. (256 * value a v x + value a v y) % 2 ^ 32) w
unfolding value
after-value a x y w same hx hy small =
    has-value a (λ v k. after_byte (word_bit a v y) (word_bit a v x) k) (λ v. (256 * value a v x + value a v y) % 2 ^ 32) w
    (λ k less. subst (Says a (λ v. after_byte (word_bit a v y) (word_bit a v x) k)) (sym (same k less)) (after-says a x y k less hx hy))
    (λ v. after-number (word_bit a v y) (word_bit a v x) (small v))

pub after-low : (byte word : ℕ → ℕ) (k : ℕ) → k < 8 → byte k ≡ after_byte byte word k
after-low byte word k less = sym (ap (λ (c : Bool). if c then byte k else word (k - 8)) (below-true k 8 less))

pub after-high : (byte word : ℕ → ℕ) (k : ℕ) → 8 ≤ k → word (k - 8) ≡ after_byte byte word k
after-high byte word k more = sym (ap (λ (c : Bool). if c then byte k else word (k - 8)) (below-false k 8 more))
