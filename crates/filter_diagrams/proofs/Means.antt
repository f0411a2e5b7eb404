-- What nodes of fields mean.
use Rattle.std.proofs.Common.{◌≡◌, ℕ, ◌+◌, ◌*◌, ◌%◌, ◌^◌, ◌<◌, ◌≤◌, inl, inr, Bool, true, false, not, ◌&&◌, List, length, take, drop, refl, sym, ap, ◌∙◌, arith, subst}
use Rattle.std.specs.Prelude.{◌==◌, if◌then◌else◌, nat_lt, nat_le, bit_and, Option, Some, None, option_and_then}
use Rattle.std.proofs.lemmas.Bool.Decides.{nat_tests}
use Rattle.std.proofs.lemmas.Bool.{cases_lt}
use Rattle.std.proofs.lemmas.Nat.{and_mask}
use Rattle.std.proofs.Math.Nat.{mod-eq_of_lt, pow-le-pow_right}
use Rattle.bpfvm.specs.Machine.{number_at, big_endian}
use Rattle.filter_meaning.specs.declared.verdict.Verdict.TheVariants.{Abort}
use Rattle.filter_meaning.specs.Meaning.{Packet, and_then, decided, check, byte, half, half_behind_header, within, is_address, address_number, has_address}
use Rattle.filter_meaning.proofs.Numbers.{number-some, number-none}
use Rattle.filter_bdd.specs.declared.answer.Answer.{Answer}
use Rattle.filter_bdd.specs.declared.answer.Answer.TheVariants.{Final}
use Rattle.filter_bdd.specs.Diagrams.{Gives}
use Rattle.filter_bdd.specs.Fields.{number_of, by_order}
use Rattle.filter_symbols.specs.declared.symbol.Symbols.{Symbols}
use Rattle.filter_symbols.specs.Packets.{bit_of, verdict_of, HasHeader}
use Rattle.filter_symbols.specs.Symbols.{SaysOf}
use Rattle.filter_symbols.proofs.Frames.{field-below}
use Rattle.filter_diagrams.proofs.Bits.{field-number, wire-number}

-- ---- Fields

order-map : {A B : Type 0} (f : A → B) (m n : ℕ) (a b c : A) → by_order m n (f a) (f b) (f c) ≡ f (by_order m n a b c)
order-map f m n a b c =
    elim (nat_lt m n) as (λ t. (if t then f a else (if m == n then f b else f c)) ≡ f (if t then a else (if m == n then b else c))) [
      | true ↦ refl
      | false ↦ elim (m == n) as (λ t. (if t then f b else f c) ≡ f (if t then b else c)) [ true ↦ refl | false ↦ refl ]
    ]

answer-there : (c need : ℕ) (s : Bool) → need ≤ c → verdict_of c (Final need s) ≡ decided s
answer-there c need s there =
    let e : nat_le need c ≡ true = grind (arith, nat_tests) in
    ap (λ t. if t then decided s else Abort) e

answer-short : (c need : ℕ) (s : Bool) → c < need → verdict_of c (Final need s) ≡ Abort
answer-short c need s short =
    let e : nat_le need c ≡ false = grind (arith, nat_tests) in
    ap (λ t. if t then decided s else Abort) e

-- three answers that hold from this many captured bytes on
three : (need : ℕ) (m n : ℕ) (l e g : Bool) (less equal greater : Answer)
    → less ≡ Final need l → equal ≡ Final need e → greater ≡ Final need g
    → by_order m n less equal greater ≡ Final need (by_order m n l e g)
three need m n l e g less equal greater el ee eg =
    ap (λ a. by_order m n a equal greater) el ∙ ap (λ a. by_order m n (Final need l) a greater) ee
    ∙ ap (λ a. by_order m n (Final need l) (Final need e) a) eg
    ∙ order-map (Final need) m n l e g

pub means-field : (b : Symbols) (i o n mask number : ℕ) (l e g : Bool) (less equal greater : Answer)
    → less ≡ Final (o + n) l → equal ≡ Final (o + n) e → greater ≡ Final (o + n) g
    → number < 2 ^ (8 * n)
    → Gives b.words.diagrams (λ v. by_order (number_of v (31 + 8 * (o + n)) mask (8 * n)) (number % 2 ^ (8 * n)) less equal greater) i
    → (f : ℕ → Bool) → ((x : ℕ) → x < 2 ^ (8 * n) → by_order (bit_and x mask) number l e g ≡ f x)
    → SaysOf b (λ p. check f (number_at p.captured o n)) i
means-field b i o n mask number l e g less equal greater el ee eg small gives f same = record {
  inside = gives.inside;
  says = λ p ok head.
      let c = length p.captured in
      let m = number_of (bit_of p) (31 + 8 * (o + n)) mask (8 * n) in
      let a = ap (verdict_of c) (gives.says (bit_of p) ∙ three (o + n) m (number % 2 ^ (8 * n)) l e g less equal greater el ee eg) in
      elim (cases_lt c (o + n)) [
        | inl short ↦
            a ∙ answer-short c (o + n) (by_order m (number % 2 ^ (8 * n)) l e g) short
            ∙ ap (check f) (sym (number-none p.captured o n short))
        | inr there ↦
            let x = big_endian (take n (drop o p.captured)) in
            a ∙ answer-there c (o + n) (by_order m (number % 2 ^ (8 * n)) l e g) there
            ∙ ap (λ k. decided (by_order k (number % 2 ^ (8 * n)) l e g)) (field-number p o n mask ok there)
            ∙ ap (λ k. decided (by_order (bit_and x mask) k l e g)) (mod-eq_of_lt small)
            ∙ ap decided (same x (field-below p o n ok there))
            ∙ ap (check f) (sym (number-some p.captured o n there))
      ];
}

-- all ones leave a number as it is
pub all-ones : (x size : ℕ) → size ≤ 8 → x < 2 ^ (8 * size) → bit_and x 18446744073709551615 ≡ x
all-ones x size small less =
    let more : 2 ^ (8 * size) ≤ 2 ^ 64 = pow-le-pow_right {n = 2} (let e : 0 < 2 = omega arith in e) (let e : 8 * size ≤ 64 = omega arith in e) in
    and_mask x 64 ∙ mod-eq_of_lt (let e : x < 2 ^ 64 = omega arith in e)

pub order-equal : (m n : ℕ) → by_order m n false true false ≡ (m == n)
order-equal m n = grind (arith, nat_tests)

pub order-greater : (m n : ℕ) → by_order m n false false true ≡ nat_lt n m
order-greater m n = grind (arith, nat_tests)

pub order-at-least : (m n : ℕ) → by_order m n false true true ≡ nat_le n m
order-at-least m n = grind (arith, nat_tests)

pub order-at-most : (m n : ℕ) → by_order m n true true false ≡ nat_le m n
order-at-most m n = grind (arith, nat_tests)

pub order-some : (m : ℕ) → by_order m 0 false false true ≡ not (m == 0)
order-some m = grind (arith, nat_tests)

pub means-wire : (b : Symbols) (i number : ℕ) (l e g : Bool) (less equal greater : Answer)
    → less ≡ Final 0 l → equal ≡ Final 0 e → greater ≡ Final 0 g
    → number < 2 ^ 32
    → Gives b.words.diagrams (λ v. by_order (number_of v 31 18446744073709551615 32) (number % 2 ^ 32) less equal greater) i
    → (f : ℕ → Bool) → ((x : ℕ) → by_order x number l e g ≡ f x)
    → SaysOf b (λ p. decided (f p.wire)) i
means-wire b i number l e g less equal greater el ee eg small gives f same = record {
  inside = gives.inside;
  says = λ p ok head.
      let c = length p.captured in
      let m = number_of (bit_of p) 31 18446744073709551615 32 in
      let wide : p.wire < 2 ^ (8 * 4) = ok.wire in
      ap (verdict_of c) (gives.says (bit_of p) ∙ three 0 m (number % 2 ^ 32) l e g less equal greater el ee eg)
      ∙ answer-there c 0 (by_order m (number % 2 ^ 32) l e g) (omega arith)
      ∙ ap (λ k. decided (by_order k (number % 2 ^ 32) l e g)) (wire-number p 18446744073709551615 ∙ ap (λ k. k % 2 ^ 32) (all-ones p.wire 4 (omega arith) wide) ∙ mod-eq_of_lt ok.wire)
      ∙ ap (λ k. decided (by_order p.wire k l e g)) (mod-eq_of_lt small)
      ∙ ap decided (same p.wire);
}

-- two conditions on one number
pub check-both : (f g : ℕ → Bool) (n : Option ℕ) → and_then (check f n) (check g n) ≡ check (λ x. f x && g x) n
check-both f g None = refl
check-both f g (Some x) = by (f x)
  where
    by : (b : Bool) → and_then (decided b) (decided (g x)) ≡ decided (b && g x)
    by true = refl
    by false = refl

-- with no first byte of the header there is nothing after it
none-behind : (p : Packet) (o : ℕ) → byte 14 p ≡ None → 14 ≤ o → half o p ≡ None
none-behind p o none far = elim (cases_lt 14 (length p.captured)) [
  | inl there ↦ absurd (let e : None ≡ Some (big_endian (take 1 (drop 14 p.captured))) = sym none ∙ number-some p.captured 14 1 (omega arith) in let f : ⊥ = cc in f)
  | inr past ↦ number-none p.captured o 2 (omega arith)
]

-- where a header's length is known, so is what comes after it
half-behind : (p : Packet) (n offset : ℕ) → HasHeader (Some n) p → half_behind_header offset p ≡ half (14 + 4 * n + offset) p
half-behind p n offset head = by (byte 14 p) refl
  where
    by : (b : Option ℕ) → byte 14 p ≡ b → option_and_then (λ k. half (14 + 4 * bit_and k 15 + offset) p) (byte 14 p) ≡ half (14 + 4 * n + offset) p
    by None none = ap (option_and_then (λ k. half (14 + 4 * bit_and k 15 + offset) p)) none ∙ sym (none-behind p (14 + 4 * n + offset) none (omega arith))
    by (Some b) is = ap (option_and_then (λ k. half (14 + 4 * bit_and k 15 + offset) p)) is ∙ ap (λ m. half (14 + 4 * m + offset) p) (head b is)

-- a port past a header whose length is known
pub port-said : (p : Packet) (low high n offset : ℕ) (header : Option ℕ) → header ≡ Some n → HasHeader header p
    → and_then (check (λ x. nat_le low x) (half (14 + 4 * n + offset) p)) (check (λ x. nat_le x high) (half (14 + 4 * n + offset) p)) ≡ check (within low high) (half_behind_header offset p)
port-said p low high n offset header is head =
    check-both (λ x. nat_le low x) (λ x. nat_le x high) (half (14 + 4 * n + offset) p)
    ∙ ap (check (within low high)) (sym (half-behind p n offset (subst (λ h. HasHeader h p) is head)))

-- an Ethernet address, by the number that it is
pub means-address : (b : Symbols) (octets : List ℕ) (o n i : ℕ) → n ≡ address_number octets
    → SaysOf b (λ p. check (λ x. x == n) (number_at p.captured o 6)) i → SaysOf b (is_address octets o) i
means-address b octets o n i is h = subst (λ m. SaysOf b (λ p. check (λ x. x == m) (number_at p.captured o 6)) i) is h

-- an IPv4 address, by the numbers that it and its mask are
pub means-masked : (b : Symbols) (o n m address mask i : ℕ) → n ≡ address → m ≡ mask
    → SaysOf b (λ p. check (λ w. bit_and w m == n) (number_at p.captured o 4)) i → SaysOf b (has_address address mask o) i
means-masked b o n m address mask i en em h =
    subst (λ k. SaysOf b (λ p. check (λ w. bit_and w mask == k) (number_at p.captured o 4)) i) en
    (subst (λ k. SaysOf b (λ p. check (λ w. bit_and w k == n) (number_at p.captured o 4)) i) em h)
