-- Tables that grow, and what nodes and words are of packets.
use Rattle.std.proofs.Common.{◌≡◌, ℕ, ◌+◌, ◌-◌, ◌*◌, ◌<◌, ◌≤◌, ◌≢◌, Bool, true, false, List, length, set, refl, sym, ap, ◌∙◌, arith, subst, below_more, get_or-set_other, get_or-set_same}
use Rattle.std.proofs.Common.{inl, inr}
use Rattle.std.specs.Prelude.{slice_index, if◌then◌else◌, nat_le, Some, None, Option}
use Rattle.std.proofs.lemmas.Bool.Decides.{nat_tests}
use Rattle.std.proofs.lemmas.Bool.{cases_lt}
use Rattle.bpfvm.specs.Machine.{number_at}
use Rattle.filter_meaning.specs.declared.verdict.Verdict.TheVariants.{Abort}
use Rattle.filter_meaning.specs.Meaning.{Packet, decided}
use Rattle.filter_meaning.proofs.Numbers as numbers
use Rattle.filter_bdd.specs.declared.answer.Answer.{Answer}
use Rattle.filter_bdd.specs.declared.answer.Answer.TheVariants.{Final, Never}
use Rattle.filter_bdd.specs.Answers.{after, ite_answer}
use Rattle.filter_bdd.specs.declared.table.Node.{Node}
use Rattle.filter_bdd.specs.Diagrams.{Gives, Grew}
use Rattle.filter_bdd.specs.Fields.{is_set}
use Rattle.filter_bdd.proofs.Tables.{grown-answer, grown_more, grown_same, grown_inside}
use Rattle.filter_words.specs.declared.word.Word.{Word}
use Rattle.filter_words.specs.Words.{Says, word_bit, value}
use Rattle.filter_words.specs.Steps.{padded}
use Rattle.filter_words.proofs.Numbers.{number-same}
use Rattle.filter_words.proofs.Shifts.{below-true, below-false}
use Rattle.filter_words.proofs.Nodes.{bit-says, is-bit, bit-grown, is_bit_grown, word_grown, value-grown}
use Rattle.filter_symbols.specs.declared.symbol.Symbols.{Symbols}
use Rattle.filter_symbols.specs.declared.symbol.Symbol.{Symbol}
use Rattle.filter_symbols.specs.Packets.{bit_of, verdict_of, verdict_at, HasHeader}
use Rattle.filter_symbols.specs.Symbols.{IsSymbol, Is, StandsFor, Extends}
use Rattle.filter_symbols.specs.Steps.{IsBitOf, IsField}
use Rattle.filter_symbols.proofs.Frames.{header-bit, padded-number, field-number}

-- ---- Growth

pub extends_by : (a b : Symbols) → b.header ≡ a.header → Grew a.words.diagrams b.words.diagrams → Extends a b
extends_by a b e g = record { header = e; grew = g }

pub extends_more : (a b c : Symbols) → Extends a b → Extends b c → Extends a c
extends_more a b c g h = record { header = h.header ∙ g.header; grew = grown_more a.words.diagrams b.words.diagrams c.words.diagrams g.grew h.grew }

pub extends_same : (a : Symbols) → Extends a a
extends_same a = record { header = refl; grew = grown_same a.words.diagrams a.words.diagrams refl }

pub grew_more : (a b c : List Node) → Grew a b → Grew b c → Grew a c
grew_more a b c g h = grown_more a b c g h

pub head-back : (a b : Symbols) (p : Packet) → Extends a b → HasHeader b.header p → HasHeader a.header p
head-back a b p g head = subst (λ h. HasHeader h p) g.header head

-- ---- Bits of packets

pub bit-fixed : (x : Symbols) (b : Bool) (n name i : ℕ) → x.header ≡ Some n → b ≡ is_set n (151 - name) → 148 ≤ name → name ≤ 151
    → Says x.words.diagrams (λ v. b) i → IsBitOf x name (λ p. bit_of p name) i
bit-fixed x b n name i is same least most h = record {
  inside = is-bit x.words.diagrams (λ v. b) i h;
  is = λ p ok head there. bit-says x.words.diagrams (λ v. b) i h (bit_of p) ∙ same
      ∙ header-bit p n name ok (omega arith) (subst (λ o. HasHeader o p) is head) least most;
}

pub bit-variable : (x : Symbols) (name i : ℕ) → Says x.words.diagrams (λ v. v name) i → IsBitOf x name (λ p. bit_of p name) i
bit-variable x name i h = record {
  inside = is-bit x.words.diagrams (λ v. v name) i h;
  is = λ p ok head there. bit-says x.words.diagrams (λ v. v name) i h (bit_of p);
}

pub bit-of-grown : (x y : Symbols) (last : ℕ) (f : Packet → Bool) (i : ℕ) → Extends x y → IsBitOf x last f i → IsBitOf y last f i
bit-of-grown x y last f i g h = record {
  inside = is_bit_grown x.words.diagrams y.words.diagrams i g.grew h.inside;
  is = λ p ok head there. bit-grown x.words.diagrams y.words.diagrams i g.grew h.inside (bit_of p) ∙ h.is p ok (head-back x y p g head) there;
}

pub bit-field : (x : Symbols) (last width place i : ℕ) → place < width → width ≤ last + 1 → IsBitOf x (last - place) (λ p. bit_of p (last - place)) i
    → IsBitOf x last (λ p. padded (λ k. bit_of p (last - k)) false width place) i
bit-field x last width place i less within h = record {
  inside = h.inside;
  is = λ p ok head there. h.is p ok head (omega arith)
      ∙ sym (ap (λ (c : Bool). if c then bit_of p (last - place) else false) (below-true place width less));
}

pub bit-above : (x : Symbols) (last width place i : ℕ) → width ≤ place → Says x.words.diagrams (λ v. false) i
    → IsBitOf x last (λ p. padded (λ k. bit_of p (last - k)) false width place) i
bit-above x last width place i above h = record {
  inside = is-bit x.words.diagrams (λ v. false) i h;
  is = λ p ok head there. bit-says x.words.diagrams (λ v. false) i h (bit_of p)
      ∙ sym (ap (λ (c : Bool). if c then bit_of p (last - place) else false) (below-false place width above));
}

-- ---- Fields

-- one more place of a list
pub all-more : (P : ℕ → ℕ → Type 0) (bits : List ℕ) (i node : ℕ) → i < length bits → ((k : ℕ) → k < i → P k (slice_index bits k)) → P i node
    → (k : ℕ) → k < i + 1 → P k (slice_index (set bits i node) k)
all-more P bits i node inside h here =
    below_more (λ k. P k (slice_index (set bits i node) k)) i
    (λ k less. let other : k ≢ i = omega arith in subst (λ n. P k n) (sym (get_or-set_other bits i k node 0 other)) (h k less))
    (subst (λ n. P i n) (sym (get_or-set_same bits i node 0 inside)) here)

pub field-is : (x : Symbols) (last width : ℕ) (w : Word) → width ≤ 32
    → ((k : ℕ) → k < 32 → IsBitOf x last (λ p. padded (λ j. bit_of p (last - j)) false width k) (slice_index w.bits k)) → IsField x last width w
unfolding value
field-is x last width w few h =
    let whole : width + (32 - width) ≡ 32 = omega arith in
    record {
      inside = λ k less. (h k less).inside;
      is = λ p ok head there.
          number-same (word_bit x.words.diagrams (bit_of p) w) (padded (λ j. bit_of p (last - j)) false width) 32 (λ k less. (h k less).is p ok head there)
          ∙ padded-number (λ j. bit_of p (last - j)) width (32 - width) whole;
    }

-- ---- Verdicts

pub there : (c need : ℕ) (says : Bool) → need ≤ c → verdict_of c (Final need says) ≡ decided says
there c need says within = let e : nat_le need c ≡ true = grind (arith, nat_tests) in ap (λ t. if t then decided says else Abort) e

pub short : (c need : ℕ) (says : Bool) → c < need → verdict_of c (Final need says) ≡ Abort
short c need says past = let e : nat_le need c ≡ false = grind (arith, nat_tests) in ap (λ t. if t then decided says else Abort) e

pub verdict-grown : (a b : List Node) (i : ℕ) (p : Packet) → Grew a b → i < length a → verdict_at b i p ≡ verdict_at a i p
verdict-grown a b i p g inside = ap (verdict_of (length p.captured)) (grown-answer (bit_of p) a b g i inside)

pub after-said : (c need : ℕ) (a : Answer) → verdict_of c (after need a) ≡ (if nat_le need c then verdict_of c a else Abort)
after-said c need Never = elim (nat_le need c) as (λ t. Abort ≡ (if t then Abort else Abort)) [ true ↦ refl | false ↦ refl ]
after-said c need (Final more says) = grind (arith, nat_tests)

after-none : (c : ℕ) (a : Answer) → verdict_of c (after 0 a) ≡ verdict_of c a
after-none c a = let e : nat_le 0 c ≡ true = grind (arith, nat_tests) in after-said c 0 a ∙ ap (λ t. if t then verdict_of c a else Abort) e

-- one of two answers, by a bit
pub chosen-verdict : (c : ℕ) (a b : Answer) (t : Bool) → verdict_of c (ite_answer (Final 0 t) a b) ≡ (if t then verdict_of c a else verdict_of c b)
chosen-verdict c a b true = after-none c a
chosen-verdict c a b false = after-none c b

-- ---- Symbols

pub symbol_grown : (a b : List Node) (s : Symbol) → Grew a b → IsSymbol a s → IsSymbol b s
symbol_grown a b s g h = record { guard = grown_inside a b s.guard g h.guard; word = word_grown a b s.word g h.word }

pub is-grown : (a b : List Node) (p : Packet) (s : Symbol) (n : Option ℕ) → Grew a b → IsSymbol a s → Is a p s n → Is b p s n
is-grown a b p s None g h is = verdict-grown a b s.guard p g h.guard ∙ is
is-grown a b p s (Some n) g h is = (verdict-grown a b s.guard p g h.guard ∙ is.0, value-grown a b s.word g h.word (bit_of p) ∙ is.1)

-- a symbol with the verdict and the value of another one
pub is-as : (a b : List Node) (p : Packet) (s t : Symbol) (n : Option ℕ) → verdict_at b t.guard p ≡ verdict_at a s.guard p → value b (bit_of p) t.word ≡ value a (bit_of p) s.word
    → Is a p s n → Is b p t n
is-as a b p s t None guard word is = guard ∙ is
is-as a b p s t (Some n) guard word is = (guard ∙ is.0, word ∙ is.1)

pub field-grown : (x y : Symbols) (last width : ℕ) (w : Word) → Extends x y → IsField x last width w → IsField y last width w
field-grown x y last width w g h = record {
  inside = word_grown x.words.diagrams y.words.diagrams w g.grew h.inside;
  is = λ p ok head there. value-grown x.words.diagrams y.words.diagrams w g.grew h.inside (bit_of p) ∙ h.is p ok (head-back x y p g head) there;
}

-- ---- Loads

-- bytes at an offset, and the guard that wants them
pub load-stands : (x : Symbols) (o n : ℕ) (s : Symbol) → 1 ≤ n → Gives x.words.diagrams (λ v. Final (o + n) true) s.guard
    → IsField x (31 + 8 * (o + n)) (8 * n) s.word → StandsFor x (λ p. number_at p.captured o n) s
load-stands x o n s some guard field = record {
  inside = record { guard = guard.inside; word = field.inside };
  is = λ p ok head.
      let c = length p.captured in
      let said = ap (verdict_of c) (guard.says (bit_of p)) in
      elim (cases_lt c (o + n)) [
        | inl past ↦ subst (Is x.words.diagrams p s) (sym (numbers.number-none p.captured o n past)) (said ∙ short c (o + n) true past)
        | inr within ↦ subst (Is x.words.diagrams p s) (sym (numbers.number-some p.captured o n within))
            (said ∙ there c (o + n) true within, field.is p ok head (omega arith) ∙ field-number p o n ok within)
      ];
}
