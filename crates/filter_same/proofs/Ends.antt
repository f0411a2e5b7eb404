-- From graphs to what two filters accept.
use Rattle.std.proofs.Common.{◌≡◌, ℕ, ◌+◌, ◌%◌, ◌*◌, ◌^◌, ◌<◌, ◌≤◌, Bool, true, false, List, length, inl, inr, refl, sym, ap, ◌∙◌, arith, subst}
use Rattle.std.specs.Prelude.{◌⊎◌, ◌==◌, if◌then◌else◌, nat_lt, nat_le, min, max, bit_and, Option, Some, None}
use Rattle.std.proofs.lemmas.Bool.{eqb-true, cases_lt}
use Rattle.std.proofs.lemmas.Bool.Decides.{nat_tests}
use Rattle.std.proofs.lemmas.Nat.{and_le_r}
use Rattle.std.proofs.Math.Nat.{mod-eq_of_lt}
use Rattle.filter_meaning.specs.declared.verdict.Verdict.TheVariants.{Yes, No, Abort}
use Rattle.filter_meaning.specs.Meaning.{Packet, Test, byte, is_yes}
use Rattle.filter_bdd.specs.declared.answer.Answer.{Answer}
use Rattle.filter_bdd.specs.declared.answer.Answer.TheVariants.{Final, Never}
use Rattle.filter_bdd.specs.declared.answer.Operation.TheVariants.{Agree, Apart, Cut}
use Rattle.filter_bdd.specs.declared.table.Node.{Node}
use Rattle.filter_same.specs.declared.find.Claim.{Claim}
use Rattle.filter_bdd.specs.Answers.{joined, accepted_from, agree_from, apart_answer, cut_answer}
use Rattle.filter_bdd.specs.Diagrams.{answer, Gives, Grew}
use Rattle.filter_bdd.specs.Fields.{by_order, number_of}
use Rattle.filter_bdd.proofs.Tables.{grown-answer}
use Rattle.filter_symbols.specs.declared.symbol.Symbols.{Symbols}
use Rattle.filter_same.specs.Same.{IsCaptured}
use Rattle.filter_symbols.specs.Packets.{bit_of, verdict_of, IsPacket, HasHeader}
use Rattle.filter_symbols.specs.Symbols.{SaysOf, Extends}
use Rattle.filter_same.specs.Findings.{KeepsNo, HoldsUnlessNo, AcceptsAlike, AreNotApart, ClaimOf, Claims, ClaimsOf}
use Rattle.filter_diagrams.proofs.Builders.{head-back, verdict-grown}
use Rattle.filter_diagrams.proofs.Bits.{wire-number, header-number}
use Rattle.filter_diagrams.proofs.Means.{all-ones}

-- ---- Both accept

-- if this many bytes were captured, a packet is accepted
accepted_at : ℕ → Option ℕ → Bool
accepted_at c None = false
accepted_at c (Some n) = nat_le n c

yes-from : (c : ℕ) (a : Answer) → is_yes (verdict_of c a) ≡ accepted_at c (accepted_from a)
unfolding accepted_at
yes-from c Never = refl
yes-from c (Final need false) = elim (nat_le need c) as (λ t. is_yes (if t then No else Abort) ≡ false) [ true ↦ refl | false ↦ refl ]
yes-from c (Final need true) = elim (nat_le need c) as (λ t. is_yes (if t then Yes else Abort) ≡ t) [ true ↦ refl | false ↦ refl ]

is-no : (n c : ℕ) → n ≤ c → verdict_of c (Final n false) ≡ No
is-no n c there = let e : nat_le n c ≡ true = grind (arith, nat_tests) in ap (λ t. if t then No else Abort) e

-- where the comparison of two does not say No, both accept or neither does
agreed-from : (c : ℕ) (x y : Option ℕ) → (verdict_of c (agree_from x y) ≡ No → ⊥) → accepted_at c x ≡ accepted_at c y
unfolding accepted_at
agreed-from c None None h = refl
agreed-from c None (Some m) h = elim (cases_lt c m) [
  | inl less ↦ grind (arith, nat_tests)
  | inr there ↦ absurd (h (is-no m c there))
]
agreed-from c (Some n) None h = elim (cases_lt c n) [
  | inl less ↦ grind (arith, nat_tests)
  | inr there ↦ absurd (h (is-no n c there))
]
agreed-from c (Some n) (Some m) h = both (n == m) refl
  where
    both : (b : Bool) → (n == m) ≡ b → nat_le n c ≡ nat_le m c
    both true same = ap (λ k. nat_le k c) (eqb-true n m same)
    both false other = elim (cases_lt c (min n m)) [
      | inl less ↦ grind (arith, nat_tests)
      | inr there ↦ absurd (h (ap (λ t. verdict_of c (if t then Final 0 true else Final (min n m) false)) other ∙ is-no (min n m) c there))
    ]

agreed : (c : ℕ) (a b : Answer) → (verdict_of c (joined Agree a b) ≡ No → ⊥) → is_yes (verdict_of c a) ≡ is_yes (verdict_of c b)
agreed c a b h = yes-from c a ∙ agreed-from c (accepted_from a) (accepted_from b) h ∙ sym (yes-from c b)

-- ---- One says Yes and the other No

-- what a verdict shows of an answer
yes-final : (c : ℕ) (a : Answer) → verdict_of c a ≡ Yes → ((n : ℕ) × ((a ≡ Final n true) × (n ≤ c)))
yes-final c Never h = absurd cc
yes-final c (Final n false) h = absurd (grind (arith, nat_tests))
yes-final c (Final n true) h = (n, (refl, grind (arith, nat_tests)))

no-final : (c : ℕ) (a : Answer) → verdict_of c a ≡ No → ((n : ℕ) × ((a ≡ Final n false) × (n ≤ c)))
no-final c Never h = absurd cc
no-final c (Final n true) h = absurd (grind (arith, nat_tests))
no-final c (Final n false) h = (n, (refl, grind (arith, nat_tests)))

apart-no : (c : ℕ) (a b : Answer) → ((verdict_of c a ≡ Yes) × (verdict_of c b ≡ No)) ⊎ ((verdict_of c a ≡ No) × (verdict_of c b ≡ Yes)) → verdict_of c (joined Apart a b) ≡ No
apart-no c a b (inl h) =
    let x = yes-final c a h.0 in
    let y = no-final c b h.1 in
    ap (λ z. verdict_of c (apart_answer z b)) x.1.0 ∙ ap (λ z. verdict_of c (apart_answer (Final x.0 true) z)) y.1.0
    ∙ is-no (max x.0 y.0) c (let f = x.1.1 in let g = y.1.1 in omega arith)
apart-no c a b (inr h) =
    let x = no-final c a h.0 in
    let y = yes-final c b h.1 in
    ap (λ z. verdict_of c (apart_answer z b)) x.1.0 ∙ ap (λ z. verdict_of c (apart_answer (Final x.0 false) z)) y.1.0
    ∙ is-no (max x.0 y.0) c (let f = x.1.1 in let g = y.1.1 in omega arith)

-- ---- What cannot be captured

-- a No that was captured stays, where no more was captured than was on the wire
cut-no : (c wire size : ℕ) (a : Answer) → c ≤ wire → verdict_of c a ≡ No
    → verdict_of c (joined Cut (by_order wire size (Final size false) (Final size true) (Final size true)) a) ≡ No
cut-no c wire size a captured said = elim (cases_lt wire size) [
  | inl less ↦
      let x = no-final c a said in
      let f = x.1.1 in
      let e : nat_lt wire size ≡ true = grind (arith, nat_tests) in
      let short : nat_le size x.0 ≡ false = grind (arith, nat_tests) in
      ap (λ t. verdict_of c (cut_answer (if t then Final size false else (if wire == size then Final size true else Final size true)) a)) e
      ∙ ap (λ z. verdict_of c (cut_answer (Final size false) z)) x.1.0
      ∙ ap (λ t. verdict_of c (if t then Final 0 true else Final x.0 false)) short
      ∙ is-no x.0 c f
  | inr more ↦
      let e : nat_lt wire size ≡ false = grind (arith, nat_tests) in
      ap (λ t. verdict_of c (cut_answer (if t then Final size false else (if wire == size then Final size true else Final size true)) a)) e
      ∙ ap (λ z. verdict_of c (cut_answer z a)) (elim (wire == size) as (λ t. (if t then Final size true else Final size true) ≡ Final size true) [ true ↦ refl | false ↦ refl ])
      ∙ said
]

pub cut-keeps : (g k h : List Node) (place long cut number size : ℕ) → Grew g k → place < length g → number ≡ size → size < 2 ^ 32
    → Gives k (λ v. by_order (number_of v 31 18446744073709551615 32) (number % 2 ^ 32) (Final size false) (Final size true) (Final size true)) long
    → Gives h (λ v. joined Cut (answer k v long) (answer k v place)) cut → KeepsNo IsCaptured g place h cut
cut-keeps g k h place long cut number size grew inside same small wire gives = record {
  inside = gives.inside;
  says = λ p ok captured said.
      let c = length p.captured in
      let wide : p.wire < 2 ^ (8 * 4) = ok.wire in
      let less : number < 2 ^ 32 = omega arith in
      let on : number_of (bit_of p) 31 18446744073709551615 32 ≡ p.wire = wire-number p 18446744073709551615 ∙ ap (λ k. k % 2 ^ 32) (all-ones p.wire 4 (omega arith) wide) ∙ mod-eq_of_lt ok.wire in
      let size_is : number % 2 ^ 32 ≡ size = mod-eq_of_lt less ∙ same in
      ap (verdict_of c) (gives.says (bit_of p))
      ∙ ap (λ a. verdict_of c (cut_answer a (answer k (bit_of p) place))) (wire.says (bit_of p)
      ∙ ap (λ n. by_order n (number % 2 ^ 32) (Final size false) (Final size true) (Final size true)) on
      ∙ ap (λ n. by_order p.wire n (Final size false) (Final size true) (Final size true)) size_is)
      ∙ cut-no c p.wire size (answer k (bit_of p) place) captured (ap (verdict_of c) (grown-answer (bit_of p) g k grew place inside) ∙ said);
}

pub keeps_same : (P : Packet → Type 0) (g : List Node) (place : ℕ) → place < length g → KeepsNo P g place g place
keeps_same P g place inside = record { inside = inside; says = λ p ok holds said. said }

pub keeps-more : (P : Packet → Type 0) (g h k : List Node) (x y z : ℕ) → KeepsNo P g x h y → KeepsNo P h y k z → KeepsNo P g x k z
keeps-more P g h k x y z first second = record { inside = second.inside; says = λ p ok holds said. second.says p ok holds (first.says p ok holds said) }

-- what needs no first byte of an IPv4 header, or has one of the length, stays
header-no : (c words bits : ℕ) (a : Answer) → (15 ≤ c → bits ≡ words) → verdict_of c a ≡ No
    → verdict_of c (joined Cut (by_order bits words (Final 15 false) (Final 15 true) (Final 15 false)) a) ≡ No
header-no c words bits a same said =
    let x = no-final c a said in
    let f = x.1.1 in
    elim (cases_lt x.0 15) [
      | inl less ↦
          let short : nat_le 15 x.0 ≡ false = grind (arith, nat_tests) in
          ap (λ z. verdict_of c (joined Cut (by_order bits words (Final 15 false) (Final 15 true) (Final 15 false)) z)) x.1.0
          ∙ by (by_order bits words false true false) x.0 short f (order-final bits words)
      | inr more ↦
          let is = same (omega arith) in
          ap (λ n. verdict_of c (joined Cut (by_order n words (Final 15 false) (Final 15 true) (Final 15 false)) a)) is
          ∙ ap (λ z. verdict_of c (joined Cut z a)) (order-self words)
          ∙ said
    ]
  where
    order-self : (n : ℕ) → by_order n n (Final 15 false) (Final 15 true) (Final 15 false) ≡ Final 15 true
    order-self n =
        let l : nat_lt n n ≡ false = grind (arith, nat_tests) in
        let e : (n == n) ≡ true = grind (arith, nat_tests) in
        ap (λ t. if t then Final 15 false else (if n == n then Final 15 true else Final 15 false)) l ∙ ap (λ t. if t then Final 15 true else Final 15 false) e

    order-final : (m n : ℕ) → by_order m n (Final 15 false) (Final 15 true) (Final 15 false) ≡ Final 15 (by_order m n false true false)
    order-final m n = elim (nat_lt m n) as (λ t. (if t then Final 15 false else (if m == n then Final 15 true else Final 15 false)) ≡ Final 15 (if t then false else (if m == n then true else false))) [
      | true ↦ refl
      | false ↦ elim (m == n) as (λ t. (if t then Final 15 true else Final 15 false) ≡ Final 15 (if t then true else false)) [ true ↦ refl | false ↦ refl ]
    ]

    by : (t : Bool) (need : ℕ) → nat_le 15 need ≡ false → need ≤ c → by_order bits words (Final 15 false) (Final 15 true) (Final 15 false) ≡ Final 15 t
        → verdict_of c (joined Cut (by_order bits words (Final 15 false) (Final 15 true) (Final 15 false)) (Final need false)) ≡ No
    by true need short there is = ap (λ z. verdict_of c (joined Cut z (Final need false))) is ∙ is-no need c there
    by false need short there is =
        ap (λ z. verdict_of c (joined Cut z (Final need false))) is
        ∙ ap (λ t. verdict_of c (if t then Final 0 true else Final need false)) short ∙ is-no need c there

pub header-keeps : (g k h : List Node) (place header cut number words : ℕ) → Grew g k → place < length g → number ≡ words → words < 16
    → Gives k (λ v. by_order (number_of v 151 18446744073709551615 4) (number % 2 ^ 4) (Final 15 false) (Final 15 true) (Final 15 false)) header
    → Gives h (λ v. joined Cut (answer k v header) (answer k v place)) cut → KeepsNo (HasHeader (Some words)) g place h cut
header-keeps g k h place header cut number words grew inside same small low gives = record {
  inside = gives.inside;
  says = λ p ok head said.
      let c = length p.captured in
      let is : number % 2 ^ 4 ≡ words = mod-eq_of_lt (let e : number < 2 ^ 4 = omega arith in e) ∙ same in
      ap (verdict_of c) (gives.says (bit_of p))
      ∙ ap (λ a. verdict_of c (joined Cut a (answer k (bit_of p) place))) (low.says (bit_of p)
      ∙ ap (λ n. by_order (number_of (bit_of p) 151 18446744073709551615 4) n (Final 15 false) (Final 15 true) (Final 15 false)) is)
      ∙ header-no c words (number_of (bit_of p) 151 18446744073709551615 4) (answer k (bit_of p) place)
      (λ there. header-number p words ok there head)
      (ap (verdict_of c) (grown-answer (bit_of p) g k grew place inside) ∙ said);
}

-- ---- What is claimed

never-no : (c : ℕ) (a : Answer) → a ≡ Final 0 true → verdict_of c a ≡ No → ⊥
never-no c a always said =
    let there : nat_le 0 c ≡ true = grind (arith, nat_tests) in
    absurd (let e : Yes ≡ No = sym (ap (λ t. if t then Yes else Abort) there) ∙ sym (ap (verdict_of c) always) ∙ said in let f : ⊥ = cc in f)

pub agree-unless : (g h : Symbols) (l r i : ℕ) → Extends g h → Gives h.words.diagrams (λ v. joined Agree (answer g.words.diagrams v l) (answer g.words.diagrams v r)) i
    → (t u : Test) → SaysOf g t l → SaysOf g u r → HoldsUnlessNo h i (AcceptsAlike t u)
agree-unless g h l r i grew gives t u ml mr p ok head never =
    let c = length p.captured in
    let back = head-back g h p grew head in
    ap is_yes (sym (ml.says p ok back))
    ∙ agreed c (answer g.words.diagrams (bit_of p) l) (answer g.words.diagrams (bit_of p) r) (λ said. never (ap (verdict_of c) (gives.says (bit_of p)) ∙ said))
    ∙ ap is_yes (mr.says p ok back)

pub apart-unless : (g h : Symbols) (l r i : ℕ) → Extends g h → Gives h.words.diagrams (λ v. joined Apart (answer g.words.diagrams v l) (answer g.words.diagrams v r)) i
    → (t u : Test) → SaysOf g t l → SaysOf g u r → HoldsUnlessNo h i (AreNotApart t u)
apart-unless g h l r i grew gives t u ml mr p ok head never apart =
    let c = length p.captured in
    let back = head-back g h p grew head in
    let one = ml.says p ok back in
    let two = mr.says p ok back in
    let both : verdict_of c (joined Apart (answer g.words.diagrams (bit_of p) l) (answer g.words.diagrams (bit_of p) r)) ≡ No =
    elim apart [
      | inl x ↦ apart-no c (answer g.words.diagrams (bit_of p) l) (answer g.words.diagrams (bit_of p) r) (inl (one ∙ x.0, two ∙ x.1))
      | inr x ↦ apart-no c (answer g.words.diagrams (bit_of p) l) (answer g.words.diagrams (bit_of p) r) (inr (one ∙ x.0, two ∙ x.1))
    ] in
    never (ap (verdict_of c) (gives.says (bit_of p)) ∙ both)

-- in a builder that has more nodes
pub unless-grown : (g h : Symbols) (i : ℕ) (P : Packet → Type 0) → Extends g h → i < length g.words.diagrams → HoldsUnlessNo g i P → HoldsUnlessNo h i P
unless-grown g h i P grew inside x p ok head never = x p ok (head-back g h p grew head) (λ said. never (verdict-grown g h i p grew inside ∙ said))

-- at a node that keeps each No of packets of which Q holds
pub unless-kept : (g h : Symbols) (i j : ℕ) (P Q : Packet → Type 0) → Extends g h → KeepsNo Q g.words.diagrams i h.words.diagrams j → HoldsUnlessNo g i P
    → HoldsUnlessNo h j (λ p. Q p → P p)
unless-kept g h i j P Q grew keeps x p ok head never q = x p ok (head-back g h p grew head) (λ said. never (keeps.says p ok q said))

pub unless-header : (g h : Symbols) (i j : ℕ) (P : Packet → Type 0) → Extends g h → KeepsNo (HasHeader g.header) g.words.diagrams i h.words.diagrams j → HoldsUnlessNo g i P → HoldsUnlessNo h j P
unless-header g h i j P grew keeps x p ok head never = unless-kept g h i j P (HasHeader g.header) grew keeps x p ok head never (head-back g h p grew head)

-- at a node that says Yes of everything
pub unless-always : (g h : Symbols) (i : ℕ) (P : Packet → Type 0) → Extends g h → ((v : ℕ → Bool) → answer h.words.diagrams v i ≡ Final 0 true) → HoldsUnlessNo h i P
    → (p : Packet) → IsPacket p → HasHeader g.header p → P p
unless-always g h i P grew always x p ok head =
    x p ok (subst (λ n. HasHeader n p) (sym grew.header) head) (never-no (length p.captured) (answer h.words.diagrams (bit_of p) i) (always (bit_of p)))

-- ---- Each header length

pub no_header : (t u : Test) (claim : Claim) → ClaimsOf None t u claim → Claims t u claim
no_header t u claim h p ok = h p ok tt

turned : (m : ℕ) → m < 16 → ((m + 11) % 16 + 5) % 16 ≡ m
turned m less = omega arith

pub each-header : (t u : Test) (claim : Claim) → ((n : ℕ) → n < 16 → ClaimsOf (Some ((n + 5) % 16)) t u claim) → Claims t u claim
each-header t u claim each p ok = by (byte 14 p) refl
  where
    by : (b : Option ℕ) → byte 14 p ≡ b → ClaimOf t u claim p
    by None none = each 0 (omega arith) p ok (λ b there. absurd (let e : None ≡ Some b = sym none ∙ there in let f : ⊥ = cc in f))
    by (Some n) is =
        let m = bit_and n 15 in
        let small : m < 16 = omega (arith, and_le_r n 15) in
        each ((m + 11) % 16) (omega arith) p ok
        (λ b there. let e : Some n ≡ Some b = sym is ∙ there in let f : b ≡ n = cc in ap (λ k. bit_and k 15) f ∙ sym (turned m small))
