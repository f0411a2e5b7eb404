-- Words that are divided.
use Rattle.std.proofs.Common.{◌≡◌, ℕ, ◌+◌, ◌-◌, ◌*◌, ◌%◌, ◌^◌, ◌<◌, Bool, List, sym, ap, ◌∙◌, arith, subst}
use Rattle.std.specs.Prelude.{slice_index, if◌then◌else◌, nat_le}
use Rattle.bpfvm.specs.Codes as codes
use Rattle.filter_bdd.specs.declared.answer.Operation.TheVariants.{Or}
use Rattle.filter_bdd.specs.declared.table.Node.{Node}
use Rattle.filter_bdd.specs.Diagrams.{Grew}
use Rattle.filter_bdd.specs.Fields.{digit}
use Rattle.filter_words.specs.declared.quotient.Division.{Division}
use Rattle.filter_words.specs.declared.word.Word.{Word}
use Rattle.filter_words.specs.Words.{number, bit, Says, word_bit, IsWord, value, HasValue, Calculates}
use Rattle.filter_words.specs.Steps.{joined_bit}
use Rattle.filter_words.specs.Division.{IsDivided, HasDividedBit, HasDivided}
use Rattle.filter_words.proofs.Numbers.{number-below, number-more-bits}
use Rattle.filter_words.proofs.Nodes.{grew_more, bit-grown, bit-says, is-bit, value-grown, value-below}
use Rattle.filter_words.proofs.Quotients.{digit-small, divided-step, highest, highest-more, highest-below, highest-none, highest-all, quotient-is, rest-is}

-- the highest bit of a word, and those below it
top-bit : (s : List Node) (v : ℕ → Bool) (w : Word) → value s v w ≡ number (word_bit s v w) 31 + 2 ^ 31 * digit (word_bit s v w 31)
unfolding value
top-bit s v w = number-more-bits (word_bit s v w) 31

pub bit-divided : (s a b c d : List Node) (division result : Division) (next : ℕ) (divisor doubled less : Word) (fits goes : ℕ)
    → Grew s a → Grew a b → Grew b c → Grew c d → IsWord s division.quotient → IsWord s division.rest → IsWord s divisor
    → HasValue s (λ v. (2 * value s v division.rest + digit (bit s v next)) % 2 ^ 32) doubled
    → Says a (λ v. nat_le (value s v divisor) (value s v doubled)) fits
    → Says b (λ v. joined_bit Or (bit a v (slice_index division.rest.bits 31)) (bit a v fits)) goes
    → Calculates b c codes.Subtract doubled divisor less
    → HasValue d (λ v. if bit c v goes then value c v less else value c v doubled) result.rest
    → HasValue d (λ v. (2 * value d v division.quotient + digit (bit d v goes)) % 2 ^ 32) result.quotient
    → HasDividedBit s d division next divisor result
bit-divided s a b c d division result next divisor doubled less fits goes sa ab bc cd hq hr hd hm hf hg hl hs hp =
    let sb = grew_more s a b sa ab in
    let sc = grew_more s b c sb bc in
    let sd = grew_more s c d sc cd in
    let bd = grew_more b c d bc cd in
    let top = slice_index division.rest.bits 31 in
    let it = λ (v : ℕ → Bool). joined_bit Or (bit a v top) (bit a v fits) in
    let is_goes = is-bit b it goes hg in
    record {
      quotient = hp.inside;
      rest = hs.inside;
      is = λ v n h bound.
          let took : it v ≡ joined_bit Or (bit s v top) (bit a v fits) = ap (λ t. joined_bit Or t (bit a v fits)) (bit-grown s a top sa (hr 31 (omega arith)) v) in
          divided-step n (value s v divisor) (value s v division.quotient) (value s v division.rest) (digit (bit s v next)) (value s v doubled) (value c v less)
          (value d v result.quotient) (value d v result.rest) (number (word_bit s v division.rest) 31) (bit s v top) (bit a v fits)
          h (digit-small (bit s v next)) bound (value-below s divisor v) (top-bit s v division.rest) (number-below (word_bit s v division.rest) 31)
          (hm.is v)
          (bit-says a (λ u. nat_le (value s u divisor) (value s u doubled)) fits hf v)
          (hl.is v ∙ ap (λ x. (x + (2 ^ 32 - value b v divisor)) % 2 ^ 32) (value-grown s b doubled sb hm.inside v)
          ∙ ap (λ x. (value s v doubled + (2 ^ 32 - x)) % 2 ^ 32) (value-grown s b divisor sb hd v))
          (hp.is v ∙ ap (λ x. (2 * x + digit (bit d v goes)) % 2 ^ 32) (value-grown s d division.quotient sd hq v)
          ∙ ap (λ t. (2 * value s v division.quotient + digit t) % 2 ^ 32) (bit-grown b d goes bd is_goes v ∙ bit-says b it goes hg v ∙ took))
          (hs.is v ∙ ap (λ (t : Bool). if t then value c v less else value c v doubled) (bit-grown b c goes bc is_goes v ∙ bit-says b it goes hg v ∙ took)
          ∙ ap (λ x. if joined_bit Or (bit s v top) (bit a v fits) then value c v less else x) (value-grown s c doubled sc hm.inside v));
    }

-- nothing is divided yet
pub division-none : (s g : List Node) (dividend divisor : Word) (none : Word) (division : Division) → division.quotient ≡ none → division.rest ≡ none → HasValue g (λ v. 0) none
    → HasDivided s g (λ v. highest (word_bit s v dividend) 0) divisor division
division-none s g dividend divisor none division eq er h = record {
  quotient = subst (IsWord g) (sym eq) h.inside;
  rest = subst (IsWord g) (sym er) h.inside;
  is = λ v pos.
      let q : value g v division.quotient ≡ 0 = ap (value g v) eq ∙ h.is v in
      let r : value g v division.rest ≡ 0 = ap (value g v) er ∙ h.is v in
      let b = value s v divisor in
      let e : 0 ≡ 0 * b + 0 = omega arith in
      record {
        whole = highest-none (word_bit s v dividend) ∙ e ∙ ap (λ x. x * b + 0) (sym q) ∙ ap (λ x. value g v division.quotient * b + x) (sym r);
        less = subst (λ x. x < b) (sym r) pos;
      };
}

-- one more bit of the dividend
pub division-more : (s l n : List Node) (dividend divisor : Word) (division result : Division) (i : ℕ) → i < 32 → Grew s l → IsWord s dividend → IsWord s divisor
    → HasDivided s l (λ v. highest (word_bit s v dividend) i) divisor division
    → HasDividedBit l n division (slice_index dividend.bits (31 - i)) divisor result
    → HasDivided s n (λ v. highest (word_bit s v dividend) (i + 1)) divisor result
division-more s l n dividend divisor division result i less sl hx hd h k = record {
  quotient = k.quotient;
  rest = k.rest;
  is = λ v pos.
      let f = word_bit s v dividend in
      let same = value-grown s l divisor sl hd v in
      let q = value l v division.quotient in
      let r = value l v division.rest in
      let next : bit l v (slice_index dividend.bits (31 - i)) ≡ f (31 - i) = bit-grown s l (slice_index dividend.bits (31 - i)) sl (hx (31 - i) (omega arith)) v in
      let whole : 2 * highest f i + digit (bit l v (slice_index dividend.bits (31 - i))) ≡ highest f (i + 1) =
      ap (λ t. 2 * highest f i + digit t) next ∙ highest-more f i less in
      let before : IsDivided (highest f i) (value l v divisor) q r = subst (λ b. IsDivided (highest f i) b q r) (sym same) (h.is v pos) in
      subst (λ x. IsDivided x (value s v divisor) (value n v result.quotient) (value n v result.rest)) whole
      (subst (λ b. IsDivided (2 * highest f i + digit (bit l v (slice_index dividend.bits (31 - i)))) b (value n v result.quotient) (value n v result.rest)) same
      (k.is v (highest f i) before (subst (λ x. x < 2 ^ 32) (sym whole) (highest-below f i less))));
}

pub division-all : (s l : List Node) (dividend divisor : Word) (division : Division) → HasDivided s l (λ v. highest (word_bit s v dividend) 32) divisor division
    → HasDivided s l (λ v. value s v dividend) divisor division
unfolding value
division-all s l dividend divisor division h = record {
  quotient = h.quotient;
  rest = h.rest;
  is = λ v pos. subst (λ x. IsDivided x (value s v divisor) (value l v division.quotient) (value l v division.rest)) (highest-all (word_bit s v dividend)) (h.is v pos);
}

pub divide-calculates : (s l : List Node) (dividend divisor : Word) (division : Division) → HasDivided s l (λ v. value s v dividend) divisor division
    → Calculates s l codes.Divide dividend divisor division.quotient
divide-calculates s l dividend divisor division h = record {
  inside = h.quotient;
  is = λ v. quotient-is (value s v dividend) (value s v divisor) (value l v division.quotient) (value l v division.rest) (h.is v);
}

pub remainder-calculates : (s l : List Node) (dividend divisor : Word) (division : Division) → HasDivided s l (λ v. value s v dividend) divisor division
    → Calculates s l codes.Modulo dividend divisor division.rest
remainder-calculates s l dividend divisor division h = record {
  inside = h.rest;
  is = λ v. rest-is (value s v dividend) (value s v divisor) (value l v division.quotient) (value l v division.rest) (h.is v);
}
