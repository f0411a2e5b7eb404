-- Builders that get more nodes, and what nodes mean in them.
use Rattle.std.proofs.Common.{◌≡◌, ℕ, ◌<◌, Bool, true, false, List, length, refl, sym, ap, ◌∙◌, arith, subst}
use Rattle.std.specs.Prelude.{if◌then◌else◌, nat_le, Result, Ok, Err, IfOk, Option, Some, None, IfSome}
use Rattle.std.proofs.lemmas.Bool.Decides.{nat_tests}
use Rattle.filter_meaning.specs.declared.verdict.Verdict.TheVariants.{Yes, No, Abort}
use Rattle.filter_meaning.specs.Meaning.{Packet, Test, and_then, or_else, opposite, decided, and_test, or_test, not_test, meaning}
use Rattle.filter_tree.specs.Trees.{Tree}
use Rattle.filter_tree.specs.Trees as trees
use Rattle.filter_bdd.specs.declared.answer.Answer.{Answer}
use Rattle.filter_bdd.specs.declared.answer.Answer.TheVariants.{Final, Never}
use Rattle.filter_bdd.specs.declared.answer.Operation.TheVariants.{And, Or, Xor}
use Rattle.filter_bdd.specs.declared.table.Node.{Node}
use Rattle.filter_bdd.specs.Answers.{after, and_answer, or_answer, xor_answer, ite_answer, joined}
use Rattle.filter_bdd.specs.Diagrams.{answer, Gives, Grew}
use Rattle.filter_bdd.proofs.Tables.{grown-answer, grown_more, grown_same, grown_inside}
use Rattle.filter_symbols.specs.declared.symbol.Symbols.{Symbols}
use Rattle.filter_symbols.specs.Packets.{bit_of, verdict_of, verdict_at, IsPacket, HasHeader}
use Rattle.filter_symbols.specs.Symbols.{SaysOf, Extends}

pub map-ok : {T E : Type 0} (r : Result T E) {P Q : T → Type 0} → ((x : T) → P x → Q x) → IfOk r P → IfOk r Q
map-ok (Ok x) f h = f x h
map-ok (Err e) f h = tt

pub map-some : {T : Type 0} (r : Option T) {P Q : T → Type 0} → ((x : T) → P x → Q x) → IfSome r P → IfSome r Q
map-some (Some x) f h = f x h
map-some None f h = tt

-- ---- Growth

pub grew_more : (a b c : List Node) → Grew a b → Grew b c → Grew a c
grew_more a b c g h = grown_more a b c g h

pub extends_by : (a b : Symbols) → b.header ≡ a.header → Grew a.words.diagrams b.words.diagrams → Extends a b
extends_by a b e g = record { header = e; grew = g }

pub extends_more : (a b c : Symbols) → Extends a b → Extends b c → Extends a c
extends_more a b c g h = record { header = h.header ∙ g.header; grew = grown_more a.words.diagrams b.words.diagrams c.words.diagrams g.grew h.grew }

pub extends_same : (a b : Symbols) → b ≡ a → Extends a b
extends_same a b e = record { header = ap (λ (x : Symbols). x.header) e; grew = grown_same a.words.diagrams b.words.diagrams (ap (λ (x : Symbols). x.words.diagrams) e) }

pub inside_extended : (a b : Symbols) (i : ℕ) → Extends a b → i < length a.words.diagrams → i < length b.words.diagrams
inside_extended a b i g inside = grown_inside a.words.diagrams b.words.diagrams i g.grew inside

pub header_extended : (P : ℕ → Type 0) (a b : Symbols) → Extends a b → IfSome a.header P → IfSome b.header P
header_extended P a b g h = subst (λ n. IfSome n P) (sym g.header) h

pub head-back : (a b : Symbols) (p : Packet) → Extends a b → HasHeader b.header p → HasHeader a.header p
head-back a b p g head = subst (λ h. HasHeader h p) g.header head

pub verdict-grown : (a b : Symbols) (i : ℕ) (p : Packet) → Extends a b → i < length a.words.diagrams → verdict_at b.words.diagrams i p ≡ verdict_at a.words.diagrams i p
verdict-grown a b i p g inside = ap (verdict_of (length p.captured)) (grown-answer (bit_of p) a.words.diagrams b.words.diagrams g.grew i inside)

pub means-grown : (a b : Symbols) (t : Test) (i : ℕ) → Extends a b → SaysOf a t i → SaysOf b t i
means-grown a b t i g h = record {
  inside = inside_extended a b i g h.inside;
  says = λ p ok head. verdict-grown a b i p g h.inside ∙ h.says p ok (head-back a b p g head);
}

pub means-as : (b : Symbols) (t u : Test) (i : ℕ) → ((p : Packet) → IsPacket p → HasHeader b.header p → t p ≡ u p) → SaysOf b t i → SaysOf b u i
means-as b t u i same h = record { inside = h.inside; says = λ p ok head. h.says p ok head ∙ same p ok head }

-- ---- Answers and verdicts

verdict-after : (c need : ℕ) (a : Answer) → verdict_of c (after need a) ≡ (if nat_le need c then verdict_of c a else Abort)
verdict-after c need Never = elim (nat_le need c) as (λ t. Abort ≡ (if t then Abort else Abort)) [ true ↦ refl | false ↦ refl ]
verdict-after c need (Final more says) = grind (arith, nat_tests)

verdict-and : (c : ℕ) (a b : Answer) → verdict_of c (and_answer a b) ≡ and_then (verdict_of c a) (verdict_of c b)
verdict-and c Never b = refl
verdict-and c (Final need false) b = elim (nat_le need c) as (λ t. (if t then No else Abort) ≡ and_then (if t then No else Abort) (verdict_of c b)) [ true ↦ refl | false ↦ refl ]
verdict-and c (Final need true) b =
    verdict-after c need b
    ∙ elim (nat_le need c) as (λ t. (if t then verdict_of c b else Abort) ≡ and_then (if t then Yes else Abort) (verdict_of c b)) [ true ↦ refl | false ↦ refl ]

verdict-or : (c : ℕ) (a b : Answer) → verdict_of c (or_answer a b) ≡ or_else (verdict_of c a) (verdict_of c b)
verdict-or c Never b = refl
verdict-or c (Final need true) b = elim (nat_le need c) as (λ t. (if t then Yes else Abort) ≡ or_else (if t then Yes else Abort) (verdict_of c b)) [ true ↦ refl | false ↦ refl ]
verdict-or c (Final need false) b =
    verdict-after c need b
    ∙ elim (nat_le need c) as (λ t. (if t then verdict_of c b else Abort) ≡ or_else (if t then No else Abort) (verdict_of c b)) [ true ↦ refl | false ↦ refl ]

verdict-not : (c : ℕ) (a : Answer) → verdict_of c (xor_answer (Final 0 true) a) ≡ opposite (verdict_of c a)
verdict-not c Never = refl
verdict-not c (Final need true) = grind (arith, nat_tests)
verdict-not c (Final need false) = grind (arith, nat_tests)

-- one of two answers, by a first one that holds or does not
verdict-ite : (c : ℕ) (a yes' no' : Answer) (b : Bool) → verdict_of c a ≡ decided b → verdict_of c (ite_answer a yes' no') ≡ (if b then verdict_of c yes' else verdict_of c no')
verdict-ite c Never y n true said = absurd cc
verdict-ite c Never y n false said = absurd cc
verdict-ite c (Final need true) y n b said = verdict-after c need y ∙ by (nat_le need c) b said
  where
    by : (t b : Bool) → (if t then Yes else Abort) ≡ decided b → (if t then verdict_of c y else Abort) ≡ (if b then verdict_of c y else verdict_of c n)
    by true true said = refl
    by true false said = absurd cc
    by false true said = absurd cc
    by false false said = absurd cc
verdict-ite c (Final need false) y n b said = verdict-after c need n ∙ by (nat_le need c) b said
  where
    by : (t b : Bool) → (if t then No else Abort) ≡ decided b → (if t then verdict_of c n else Abort) ≡ (if b then verdict_of c y else verdict_of c n)
    by true true said = absurd cc
    by true false said = refl
    by false true said = absurd cc
    by false false said = absurd cc

-- ---- Joined nodes

pub means-both : (a b : Symbols) (x y i : ℕ) → Extends a b → Gives b.words.diagrams (λ v. joined And (answer a.words.diagrams v x) (answer a.words.diagrams v y)) i
    → (t u : Test) → SaysOf a t x → SaysOf a u y → SaysOf b (and_test t u) i
means-both a b x y i g gives t u mt mu = record {
  inside = gives.inside;
  says = λ p ok head.
      let c = length p.captured in
      let back = head-back a b p g head in
      ap (verdict_of c) (gives.says (bit_of p))
      ∙ verdict-and c (answer a.words.diagrams (bit_of p) x) (answer a.words.diagrams (bit_of p) y)
      ∙ ap (λ z. and_then z (verdict_at a.words.diagrams y p)) (mt.says p ok back) ∙ ap (and_then (t p)) (mu.says p ok back);
}

pub means-either : (a b : Symbols) (x y i : ℕ) → Extends a b → Gives b.words.diagrams (λ v. joined Or (answer a.words.diagrams v x) (answer a.words.diagrams v y)) i
    → (t u : Test) → SaysOf a t x → SaysOf a u y → SaysOf b (or_test t u) i
means-either a b x y i g gives t u mt mu = record {
  inside = gives.inside;
  says = λ p ok head.
      let c = length p.captured in
      let back = head-back a b p g head in
      ap (verdict_of c) (gives.says (bit_of p))
      ∙ verdict-or c (answer a.words.diagrams (bit_of p) x) (answer a.words.diagrams (bit_of p) y)
      ∙ ap (λ z. or_else z (verdict_at a.words.diagrams y p)) (mt.says p ok back) ∙ ap (or_else (t p)) (mu.says p ok back);
}

pub means-not : (a b k : Symbols) (yes' x i : ℕ) → Extends a b → Extends b k → x < length a.words.diagrams → Gives b.words.diagrams (λ v. Final 0 true) yes'
    → Gives k.words.diagrams (λ v. joined Xor (answer b.words.diagrams v yes') (answer b.words.diagrams v x)) i → (t : Test) → SaysOf a t x → SaysOf k (not_test t) i
means-not a b k y x i g h inside always gives t mt = record {
  inside = gives.inside;
  says = λ p ok head.
      let c = length p.captured in
      ap (verdict_of c) (gives.says (bit_of p))
      ∙ ap (λ z. verdict_of c (xor_answer z (answer b.words.diagrams (bit_of p) x))) (always.says (bit_of p))
      ∙ verdict-not c (answer b.words.diagrams (bit_of p) x)
      ∙ ap opposite (verdict-grown a b x p g inside ∙ mt.says p ok (head-back a b p g (head-back b k p h head)));
}

pub choice-says : (a : Symbols) (b : List Node) (x y n i : ℕ) → Gives b (λ v. ite_answer (answer a.words.diagrams v x) (answer a.words.diagrams v y) (answer a.words.diagrams v n)) i
    → (p : Packet) → (h : Bool) → verdict_at a.words.diagrams x p ≡ decided h
    → verdict_at b i p ≡ (if h then verdict_at a.words.diagrams y p else verdict_at a.words.diagrams n p)
choice-says a b x y n i gives p h said =
    ap (verdict_of (length p.captured)) (gives.says (bit_of p))
    ∙ verdict-ite (length p.captured) (answer a.words.diagrams (bit_of p) x) (answer a.words.diagrams (bit_of p) y) (answer a.words.diagrams (bit_of p) n) h said

-- both sides of an operator
pub tree-both : (g h k : Symbols) (whole a b : Tree) (x y i : ℕ) → whole ≡ trees.both a b → Extends g h → SaysOf g (meaning a) x → SaysOf h (meaning b) y
    → ((t u : Test) → SaysOf h t x → SaysOf h u y → SaysOf k (and_test t u) i) → SaysOf k (meaning whole) i
tree-both g h k whole a b x y i is grew ma mb all =
    subst (λ t. SaysOf k (meaning t) i) (sym is) (all (meaning a) (meaning b) (means-grown g h (meaning a) x grew ma) mb)

pub tree-either : (g h k : Symbols) (whole a b : Tree) (x y i : ℕ) → whole ≡ trees.either a b → Extends g h → SaysOf g (meaning a) x → SaysOf h (meaning b) y
    → ((t u : Test) → SaysOf h t x → SaysOf h u y → SaysOf k (or_test t u) i) → SaysOf k (meaning whole) i
tree-either g h k whole a b x y i is grew ma mb any =
    subst (λ t. SaysOf k (meaning t) i) (sym is) (any (meaning a) (meaning b) (means-grown g h (meaning a) x grew ma) mb)

pub tree-not : (g h : Symbols) (whole a : Tree) (x i : ℕ) → whole ≡ trees.negation a → SaysOf g (meaning a) x
    → ((t : Test) → SaysOf g t x → SaysOf h (not_test t) i) → SaysOf h (meaning whole) i
tree-not g h whole a x i is ma turned = subst (λ t. SaysOf h (meaning t) i) (sym is) (turned (meaning a) ma)
