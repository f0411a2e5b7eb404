-- The bits of a packet, and the numbers that they are.
use Rattle.std.proofs.Common.{◌≡◌, ℕ, zero, suc, ◌+◌, ◌-◌, ◌*◌, ◌/◌, ◌%◌, ◌^◌, ◌<◌, ◌≤◌, inl, inr, Bool, true, false, ◌&&◌, List, [], ◌∷◌, length, take, drop, get_or, refl, sym, ap, ◌∙◌, arith, subst}
use Rattle.std.specs.Prelude.{◌==◌, if◌then◌else◌, nat_lt, bit_and, slice_index, fold, min, Some}
use Rattle.std.specs.List.{AllByRecursion}
use Rattle.std.specs.Int.{bit_at}
use Rattle.std.proofs.lemmas.Bool.Decides.{nat_tests}
use Rattle.std.proofs.lemmas.Bool.{cases_lt}
use Rattle.std.proofs.lemmas.List.{get_or-take, get_or-drop, length-take-le}
use Rattle.std.proofs.lemmas.Nat.{mul-le, pow-add}
use Rattle.std.proofs.lemmas.Nat.Bits.{bit_at_and, bit_at_cat_low, bit_at_cat_high}
use Rattle.std.proofs.Math.Nat.{mod-eq_of_lt}
use Rattle.std.proofs.Common.{length-drop}
use Rattle.bpfvm.specs.Machine.{big_endian}
use Rattle.filter_meaning.specs.Meaning.{Packet}
use Rattle.filter_bdd.specs.Fields.{is_set}
use Rattle.filter_meaning.proofs.Numbers.{number-some}
use Rattle.filter_words.specs.Words.{number}
use Rattle.filter_words.specs.Steps.{padded}
use Rattle.filter_words.proofs.Numbers.{number-same, number-set}
use Rattle.filter_words.proofs.Shifts.{number-split, number-none, below-true, below-false}
use Rattle.filter_symbols.specs.Packets.{bit_of, IsPacket, HasHeader}

abbrev AreBytes : List ℕ → Type 0
AreBytes bs = AllByRecursion (λ byte. byte < 256) bs

-- the number that bytes are after another one
abbrev behind : ℕ → List ℕ → ℕ
behind n bs = fold (λ number byte. 256 * number + byte) n bs

are-taken : (n : ℕ) (bs : List ℕ) → AreBytes bs → AreBytes (take n bs)
are-taken zero bs h = tt
are-taken (suc n) [] h = tt
are-taken (suc n) (b ∷ bs) h = (h.0, are-taken n bs h.1)

are-dropped : (n : ℕ) (bs : List ℕ) → AreBytes bs → AreBytes (drop n bs)
are-dropped zero bs h = h
are-dropped (suc n) [] h = tt
are-dropped (suc n) (b ∷ bs) h = are-dropped n bs h.1

high-bit : (bs : List ℕ) (n i : ℕ) → AreBytes bs → bit_at (behind n bs) (8 * length bs + i) ≡ bit_at n i
high-bit [] n i all = ap (bit_at n) (let e : 8 * 0 + i ≡ i = omega arith in e)
high-bit (b ∷ bs) n i all =
    let e : 8 * length (b ∷ bs) + i ≡ 8 * length bs + (8 + i) = omega arith in
    let f : 256 * n + b ≡ n * 2 ^ 8 + b = omega arith in
    let g : 8 + i - 8 ≡ i = omega arith in
    ap (bit_at (behind n (b ∷ bs))) e ∙ high-bit bs (256 * n + b) (8 + i) all.1
    ∙ ap (λ m. bit_at m (8 + i)) f ∙ bit_at_cat_high n 8 b (8 + i) all.0 (omega arith) ∙ ap (bit_at n) g

low-bit : (bs : List ℕ) (n j : ℕ) → AreBytes bs → j < 8 * length bs → bit_at (behind n bs) j ≡ bit_at (get_or bs (length bs - 1 - j / 8) 0) (j % 8)
low-bit [] n j all less = absurd (omega arith)
low-bit (b ∷ bs) n j all less = elim (cases_lt j (8 * length bs)) [
  | inl below ↦
      let e : length (b ∷ bs) - 1 - j / 8 ≡ suc (length bs - 1 - j / 8) = omega arith in
      low-bit bs (256 * n + b) j all.1 below ∙ ap (λ k. bit_at (get_or (b ∷ bs) k 0) (j % 8)) (sym e)
  | inr above ↦
      let i = j - 8 * length bs in
      let e : j ≡ 8 * length bs + i = omega arith in
      let small : i < 8 = omega arith in
      let f : 256 * n + b ≡ n * 2 ^ 8 + b = omega arith in
      let g : length (b ∷ bs) - 1 - j / 8 ≡ 0 = omega arith in
      let h : j % 8 ≡ i = omega arith in
      ap (bit_at (behind n (b ∷ bs))) e ∙ high-bit bs (256 * n + b) i all.1
      ∙ ap (λ m. bit_at m i) f ∙ bit_at_cat_low n 8 b i small
      ∙ ap (bit_at b) (sym h) ∙ ap (λ k. bit_at (get_or (b ∷ bs) k 0) (j % 8)) (sym g)
]

behind-below : (bs : List ℕ) (n : ℕ) → AreBytes bs → behind n bs < (n + 1) * 2 ^ (8 * length bs)
behind-below [] n all = let e : n < (n + 1) * 1 = omega arith in e
behind-below (b ∷ bs) n all =
    let p = 2 ^ (8 * length bs) in
    let rest : behind (256 * n + b) bs < (256 * n + b + 1) * p = behind-below bs (256 * n + b) all.1 in
    let small = all.0 in
    let more : (256 * n + b + 1) * p ≤ ((n + 1) * 256) * p = mul-le (256 * n + b + 1) p ((n + 1) * 256) p (omega arith) (omega arith) in
    let e : 8 * length (b ∷ bs) ≡ 8 + 8 * length bs = omega arith in
    let f : 2 ^ (8 * length (b ∷ bs)) ≡ 256 * p = ap (λ k. 2 ^ k) e ∙ pow-add 2 8 (8 * length bs) in
    let g : ((n + 1) * 256) * p ≡ (n + 1) * (256 * p) = omega arith in
    let whole : behind (256 * n + b) bs < (n + 1) * (256 * p) = omega arith in
    subst (λ m. behind (256 * n + b) bs < (n + 1) * m) (sym f) whole

length-field : (o n : ℕ) (bs : List ℕ) → o + n ≤ length bs → length (take n (drop o bs)) ≡ n
length-field o n bs within = length-take-le n (drop o bs) (omega (arith, length-drop o bs))

-- a number of this many bytes
pub field-below : (p : Packet) (o n : ℕ) → IsPacket p → o + n ≤ length p.captured → big_endian (take n (drop o p.captured)) < 2 ^ (8 * n)
field-below p o n ok within =
    let bs = take n (drop o p.captured) in
    let below = behind-below bs 0 (are-taken n (drop o p.captured) (are-dropped o p.captured ok.bytes)) in
    let one : (0 + 1) * 2 ^ (8 * length bs) ≡ 2 ^ (8 * length bs) = omega arith in
    subst (λ k. big_endian bs < 2 ^ (8 * k)) (length-field o n p.captured within) (omega arith)

-- a bit of it
pub field-bit : (p : Packet) (o n j : ℕ) → IsPacket p → o + n ≤ length p.captured → j < 8 * n → bit_of p (31 + 8 * (o + n) - j) ≡ is_set (big_endian (take n (drop o p.captured))) j
field-bit p o n j ok within less =
    let bs = take n (drop o p.captured) in
    let name = 31 + 8 * (o + n) - j in
    let long = length-field o n p.captured within in
    let frame : nat_lt name 32 ≡ false = grind (arith, nat_tests) in
    let place : (name - 32) / 8 ≡ o + (n - 1 - j / 8) = omega arith in
    let bit : 7 - (name - 32) % 8 ≡ j % 8 = omega arith in
    let here : n - 1 - j / 8 < n = omega arith in
    ap (λ c. if c then is_set p.wire (31 - name) else is_set (slice_index p.captured ((name - 32) / 8)) (7 - (name - 32) % 8)) frame
    ∙ ap (λ k. is_set (slice_index p.captured k) (7 - (name - 32) % 8)) place
    ∙ ap (λ k. is_set (slice_index p.captured (o + (n - 1 - j / 8))) k) bit
    ∙ ap (λ b. is_set b (j % 8)) (sym (get_or-take n (drop o p.captured) (n - 1 - j / 8) 0 here ∙ get_or-drop o p.captured (n - 1 - j / 8) 0))
    ∙ ap (λ m. is_set (get_or bs (m - 1 - j / 8) 0) (j % 8)) (sym long)
    ∙ ap (λ m. m == 1) (sym (low-bit bs 0 j (are-taken n (drop o p.captured) (are-dropped o p.captured ok.bytes)) (omega arith)))

-- a bit under a mask
both-set : (a b : ℕ) → a < 2 → b < 2 → ((b == 1) && (a == 1)) ≡ (min a b == 1)
both-set zero zero la lb = refl
both-set zero (suc zero) la lb = refl
both-set (suc zero) zero la lb = refl
both-set (suc zero) (suc zero) la lb = refl
both-set (suc (suc a)) b la lb = absurd (omega arith)
both-set zero (suc (suc b)) la lb = absurd (omega arith)
both-set (suc zero) (suc (suc b)) la lb = absurd (omega arith)

pub mask-bit : (x mask k : ℕ) → (is_set mask k && is_set x k) ≡ is_set (bit_and x mask) k
mask-bit x mask k = both-set (bit_at x k) (bit_at mask k) (omega arith) (omega arith) ∙ ap (λ m. m == 1) (sym (bit_at_and x mask k))

pub wire-bit : (p : Packet) (j : ℕ) → j < 32 → bit_of p (31 - j) ≡ is_set p.wire j
wire-bit p j less =
    let name = 31 - j in
    let wire : nat_lt name 32 ≡ true = grind (arith, nat_tests) in
    let back : 31 - name ≡ j = omega arith in
    ap (λ c. if c then is_set p.wire (31 - name) else is_set (slice_index p.captured ((name - 32) / 8)) (7 - (name - 32) % 8)) wire
    ∙ ap (is_set p.wire) back

low-ones : (j : ℕ) → j < 4 → is_set 15 j ≡ true
low-ones zero less = refl
low-ones (suc zero) less = refl
low-ones (suc (suc zero)) less = refl
low-ones (suc (suc (suc zero))) less = refl
low-ones (suc (suc (suc (suc j)))) less = absurd (omega arith)

-- the low four bits of the first byte of the IPv4 header are those of its length
pub header-bit : (p : Packet) (n name : ℕ) → IsPacket p → 15 ≤ length p.captured → HasHeader (Some n) p → 148 ≤ name → name ≤ 151 → is_set n (151 - name) ≡ bit_of p name
header-bit p n name ok there head least most =
    let j = 151 - name in
    let less : j < 4 = omega arith in
    let x = big_endian (take 1 (drop 14 p.captured)) in
    let here : 31 + 8 * (14 + 1) - j ≡ name = omega arith in
    ap (λ m. is_set m j) (sym (head x (number-some p.captured 14 1 there)))
    ∙ sym (mask-bit x 15 j) ∙ ap (λ b. b && is_set x j) (low-ones j less)
    ∙ sym (field-bit p 14 1 j ok there (omega arith)) ∙ ap (bit_of p) here

-- ---- Numbers

-- the number that bytes are is that of their bits
pub field-number : (p : Packet) (o n : ℕ) → IsPacket p → o + n ≤ length p.captured
    → number (λ k. bit_of p (31 + 8 * (o + n) - k)) (8 * n) ≡ big_endian (take n (drop o p.captured))
field-number p o n ok within =
    let x = big_endian (take n (drop o p.captured)) in
    number-same (λ k. bit_of p (31 + 8 * (o + n) - k)) (is_set x) (8 * n) (λ j less. field-bit p o n j ok within less)
    ∙ number-set x (8 * n) ∙ mod-eq_of_lt (field-below p o n ok within)

-- the length on the wire is that of its bits
pub wire-number : (p : Packet) → IsPacket p → number (λ k. bit_of p (31 - k)) 32 ≡ p.wire
wire-number p ok =
    number-same (λ k. bit_of p (31 - k)) (is_set p.wire) 32 (λ j less. wire-bit p j less) ∙ number-set p.wire 32 ∙ mod-eq_of_lt ok.wire

-- bits that are padded by 0 are the same number
pub padded-number : (a : ℕ → Bool) (n m : ℕ) → n + m ≡ 32 → number (padded a false n) 32 ≡ number a n
padded-number a n m e =
    let r = padded a false n in
    let low : number r n ≡ number a n = number-same r a n (λ k less. ap (λ (c : Bool). if c then a k else false) (below-true k n less)) in
    let high : number (λ k. r (n + k)) m ≡ 0 = number-none (λ k. r (n + k)) m (λ k less. ap (λ (c : Bool). if c then a (n + k) else false) (below-false (n + k) n (omega arith))) in
    let none : number a n + 2 ^ n * 0 ≡ number a n = omega arith in
    ap (number r) (sym e) ∙ number-split r n m ∙ ap (λ x. x + 2 ^ n * number (λ k. r (n + k)) m) low ∙ ap (λ x. number a n + 2 ^ n * x) high ∙ none
