-- What words are that were made bit by bit, and of other words.
use Rattle.std.proofs.Common.{◌≡◌, ℕ, ◌+◌, ◌-◌, ◌*◌, ◌%◌, ◌^◌, ◌<◌, inl, inr, Bool, true, false, List, refl, sym, ap, ◌∙◌, arith, subst}
use Rattle.std.specs.Prelude.{slice_index, not, if◌then◌else◌, nat_lt, ◌==◌, bit_and, Some, IfSome}
use Rattle.std.proofs.lemmas.Bool.{cases_lt}
use Rattle.std.proofs.Math.Nat.{mod-eq_of_lt}
use Rattle.bpfvm.specs.Codes.{Arithmetic}
use Rattle.bpfvm.specs.Codes as codes
use Rattle.bpfvm.specs.Machine.{calculated}
use Rattle.filter_bdd.specs.declared.table.Node.{Node}
use Rattle.filter_bdd.specs.declared.answer.Answer.TheVariants.{Final}
use Rattle.filter_bdd.specs.Diagrams.{answer, Grew}
use Rattle.filter_bdd.specs.Fields.{is_set, digit}
use Rattle.filter_words.specs.declared.shift.Shift.{Shift}
use Rattle.filter_words.specs.declared.shift.Shift.TheVariants.{Left, Right}
use Rattle.filter_words.specs.declared.word.Word.{Word}
use Rattle.filter_words.specs.Words.{number, is_yes, bit, Says, IsBit, word_bit, IsWord, value, HasValue, Calculates}
use Rattle.filter_words.specs.Steps.{HasBits, chosen, sum_bit, carries, is_above, ordered, are_equal, moved, shifted}
use Rattle.filter_words.proofs.Numbers.{number-set, number-not, number-chosen, sum-value, above-value, equal-value, number-more-bits}
use Rattle.filter_words.proofs.Shifts.{number-split, moved-value, shifted-stage, below-true, below-false, product-part}
use Rattle.filter_words.proofs.Nodes.{bit-grown, bit-says, says-grown, says-as, word_grown, value-grown, value-below, has-value, grew_more}

pub constant-value : (a : List Node) (n : ℕ) (w : Word) → n < 2 ^ 32 → HasBits a (λ v k. is_set n k) w → HasValue a (λ v. n) w
constant-value a n w less h = has-value a (λ v k. is_set n k) (λ v. n) w h (λ v. number-set n 32 ∙ mod-eq_of_lt less)

pub not-value : (a b : List Node) (x w : Word) → HasBits b (λ v k. not (word_bit a v x k)) w → HasValue b (λ v. 2 ^ 32 - 1 - value a v x) w
unfolding value
not-value a b x w h =
    has-value b (λ v k. not (word_bit a v x k)) (λ v. 2 ^ 32 - 1 - value a v x) w h
    (λ v. opposite (number (λ k. not (word_bit a v x k)) 32) (number (word_bit a v x) 32) (2 ^ 32) (number-not (word_bit a v x) 32))
  where
    opposite : (x y p : ℕ) → x + y + 1 ≡ p → x ≡ p - 1 - y
    opposite x y p e = omega arith

pub select-value : (a b : List Node) (t : ℕ) (x y w : Word) → HasBits b (λ v k. chosen (bit a v t) (word_bit a v x k) (word_bit a v y k)) w
    → HasValue b (λ v. if bit a v t then value a v x else value a v y) w
unfolding value
select-value a b t x y w h =
    has-value b (λ v k. chosen (bit a v t) (word_bit a v x k) (word_bit a v y k)) (λ v. if bit a v t then value a v x else value a v y) w h
    (λ v. number-chosen (bit a v t) (word_bit a v x) (word_bit a v y) 32)

-- ---- Sums

pub sum-has-value : (a b : List Node) (x y w : Word) (first : Bool)
    → HasBits b (λ v k. sum_bit (word_bit a v x k) (word_bit a v y k) (carries (word_bit a v x) (word_bit a v y) first k)) w
    → HasValue b (λ v. (value a v x + value a v y + digit first) % 2 ^ 32) w
unfolding value
sum-has-value a b x y w first h =
    has-value b (λ v k. sum_bit (word_bit a v x k) (word_bit a v y k) (carries (word_bit a v x) (word_bit a v y) first k))
    (λ v. (value a v x + value a v y + digit first) % 2 ^ 32) w h (λ v. sum-value (word_bit a v x) (word_bit a v y) first 32)

pub add-calculates : (a b : List Node) (x y w : Word) → HasValue b (λ v. (value a v x + value a v y + digit false) % 2 ^ 32) w → Calculates a b codes.Add x y w
add-calculates a b x y w h = record {
  inside = h.inside;
  is = λ v. h.is v ∙ ap (λ n. n % 2 ^ 32) (let e : value a v x + value a v y + 0 ≡ value a v x + value a v y = omega arith in e);
}

less-one : (x y p : ℕ) → y < p → x + (p - 1 - y) + 1 ≡ x + (p - y)
less-one x y p less = omega arith

pub subtract-calculates : (a c b : List Node) (x y z w : Word) → Grew a c → IsWord a x → HasValue c (λ v. 2 ^ 32 - 1 - value a v y) z
    → HasValue b (λ v. (value c v x + value c v z + digit true) % 2 ^ 32) w → Calculates a b codes.Subtract x y w
subtract-calculates a c b x y z w g hx hz h = record {
  inside = h.inside;
  is = λ v. h.is v
      ∙ ap (λ n. (n + value c v z + 1) % 2 ^ 32) (value-grown a c x g hx v)
      ∙ ap (λ n. (value a v x + n + 1) % 2 ^ 32) (hz.is v)
      ∙ ap (λ n. n % 2 ^ 32) (less-one (value a v x) (value a v y) (2 ^ 32) (value-below a y v));
}

-- ---- Orders

pub above-says : (a b : List Node) (i : ℕ) (first second : Word) (equal : Bool) → Says b (λ v. is_above (word_bit a v first) (word_bit a v second) equal 32) i
    → Says b (λ v. ordered equal (value a v first) (value a v second)) i
unfolding value
above-says a b i first second equal h =
    says-as b (λ v. is_above (word_bit a v first) (word_bit a v second) equal 32) (λ v. ordered equal (value a v first) (value a v second)) i
    (λ v. above-value (word_bit a v first) (word_bit a v second) equal 32) h

pub equal-says : (a b : List Node) (i : ℕ) (first second : Word) → Says b (λ v. are_equal (word_bit a v first) (word_bit a v second) 32) i
    → Says b (λ v. value a v first == value a v second) i
unfolding value
equal-says a b i first second h =
    says-as b (λ v. are_equal (word_bit a v first) (word_bit a v second) 32) (λ v. value a v first == value a v second) i
    (λ v. equal-value (word_bit a v first) (word_bit a v second) 32) h

-- 0 less a word
pub negate-value : (a c b : List Node) (x none w : Word) → Grew a c → IsWord a x → HasValue c (λ v. 0) none → Calculates c b codes.Subtract none x w
    → (v : ℕ → Bool) → IfSome (calculated codes.Subtract 0 (value a v x)) (λ n. value b v w ≡ n)
negate-value a c b x none w g hx hn h = λ v.
    h.is v ∙ ap (λ n. (n + (2 ^ 32 - value c v x)) % 2 ^ 32) (hn.is v) ∙ ap (λ n. (0 + (2 ^ 32 - n)) % 2 ^ 32) (value-grown a c x g hx v)

not-is : (x : ℕ) → not (x == 0) ≡ (if x == 0 then false else true)
not-is x = turn (x == 0)
  where
    turn : (b : Bool) → not b ≡ (if b then false else true)
    turn true = refl
    turn false = refl

-- two words have a bit in common where what they have in common is not 0
pub common-says : (s a b c d : List Node) (x y both none : Word) (equal i : ℕ) → Grew a b → Calculates s a codes.And x y both
    → HasValue b (λ v. 0) none → Says c (λ v. value b v both == value b v none) equal → Says d (λ v. not (bit c v equal)) i
    → Says d (λ v. if bit_and (value s v x) (value s v y) == 0 then false else true) i
common-says s a b c d x y both none equal i ab hb hn he h =
    says-as d (λ v. not (bit c v equal)) (λ v. if bit_and (value s v x) (value s v y) == 0 then false else true) i
    (λ v.
    let n = bit_and (value s v x) (value s v y) in
    ap not (bit-says c (λ u. value b u both == value b u none) equal he v)
    ∙ ap (λ m. not (m == value b v none)) (value-grown a b both ab hb.inside v ∙ hb.is v)
    ∙ ap (λ m. not (n == m)) (hn.is v)
    ∙ not-is n)
    h

-- ---- Shifts

pub moved-says : (shift : Shift) (a b : List Node) (x : Word) (none count k : ℕ) → Grew a b → IsWord a x → Says b (λ v. false) none → k < 32
    → Says b (λ v. moved shift (word_bit a v x) false count k) (moved shift (slice_index x.bits) none count k)
moved-says Left a b x none count k g hx hn less = elim (cases_lt k count) [
  | inl below ↦ subst (λ (c : Bool). Says b (λ v. if c then false else word_bit a v x (k - count)) (if c then none else slice_index x.bits (k - count)))
      (sym (below-true k count below)) hn
  | inr above ↦ subst (λ (c : Bool). Says b (λ v. if c then false else word_bit a v x (k - count)) (if c then none else slice_index x.bits (k - count)))
      (sym (below-false k count above))
      (says-grown a b (λ v. word_bit a v x (k - count)) (slice_index x.bits (k - count)) g (hx (k - count) (omega arith)))
]
moved-says Right a b x none count k g hx hn less = elim (cases_lt (k + count) 32) [
  | inl below ↦ subst (λ (c : Bool). Says b (λ v. if c then word_bit a v x (k + count) else false) (if c then slice_index x.bits (k + count) else none))
      (sym (below-true (k + count) 32 below))
      (says-grown a b (λ v. word_bit a v x (k + count)) (slice_index x.bits (k + count)) g (hx (k + count) below))
  | inr above ↦ subst (λ (c : Bool). Says b (λ v. if c then word_bit a v x (k + count) else false) (if c then slice_index x.bits (k + count) else none))
      (sym (below-false (k + count) 32 above)) hn
]

pub shift-value : (a b : List Node) (shift : Shift) (x w : Word) (count : ℕ) → count < 32 → HasBits b (λ v k. moved shift (word_bit a v x) false count k) w
    → HasValue b (λ v. shifted shift (value a v x) count) w
unfolding value
shift-value a b shift x w count less h =
    has-value b (λ v k. moved shift (word_bit a v x) false count k) (λ v. shifted shift (value a v x) count) w h
    (λ v. moved-value shift (word_bit a v x) count less)

-- one more stage of a shift by a word
pub stage-value : (s l g h : List Node) (shift : Shift) (x by m n w : Word) (i p : ℕ) → p ≡ 2 ^ i → i < 32 → Grew s l → Grew l g → IsWord s by
    → HasValue l (λ v. shifted shift (value s v x) (number (word_bit s v by) i)) m
    → HasValue g (λ v. shifted shift (value l v m) p) n
    → HasValue h (λ v. if bit g v (slice_index by.bits i) then value g v n else value g v m) w
    → HasValue h (λ v. shifted shift (value s v x) (number (word_bit s v by) (i + 1))) w
stage-value s l g h shift x by m n w i p e less sl lg hby hm hn hw = record {
  inside = hw.inside;
  is = λ v.
      let t = slice_index by.bits i in
      let b = word_bit s v by i in
      let k = number (word_bit s v by) i in
      let z = value s v x in
      let same : bit g v t ≡ b = bit-grown l g t lg (word_grown s l by sl hby i less) v ∙ bit-grown s l t sl (hby i less) v in
      hw.is v
      ∙ ap (λ (c : Bool). if c then value g v n else value g v m) same
      ∙ ap (λ q. if b then q else value g v m) (hn.is v ∙ ap (λ q. shifted shift q p) (hm.is v))
      ∙ ap (λ q. if b then shifted shift (shifted shift z k) p else q) (value-grown l g m lg hm.inside v ∙ hm.is v)
      ∙ shifted-stage shift z k p b
      ∙ ap (λ q. shifted shift z (k + q * digit b)) e
      ∙ ap (shifted shift z) (sym (number-more-bits (word_bit s v by) i));
}

low-five : (x y z : ℕ) → x ≡ y + 2 ^ 5 * z → x < 32 → y ≡ x
low-five x y z e less = omega arith

low-bits : (s : List Node) (v : ℕ → Bool) (w : Word) → value s v w < 32 → number (word_bit s v w) 5 ≡ value s v w
unfolding value
low-bits s v w less =
    let f = word_bit s v w in
    low-five (number f 32) (number f 5) (number (λ k. f (5 + k)) 27) (number-split f 5 27) less

far-or-not : (shift : Shift) (n b low : ℕ) → (b < 32 → low ≡ b) → (if nat_lt 31 b then 0 else shifted shift n low) ≡ (if nat_lt b 32 then shifted shift n b else 0)
far-or-not shift n b low same = elim (cases_lt b 32) [
  | inl less ↦
      ap (λ (c : Bool). if c then 0 else shifted shift n low) (below-false 31 b (omega arith))
      ∙ ap (shifted shift n) (same less)
      ∙ ap (λ (c : Bool). if c then shifted shift n b else 0) (sym (below-true b 32 less))
  | inr more ↦
      ap (λ (c : Bool). if c then 0 else shifted shift n low) (below-true 31 b (omega arith))
      ∙ ap (λ (c : Bool). if c then shifted shift n b else 0) (sym (below-false b 32 more))
]

-- a shift by a word: that by its low five bits, or 0
pub far-value : (s a b c d e : List Node) (shift : Shift) (x by low most none w : Word) (far : ℕ)
    → Grew s a → Grew a b → Grew b c → Grew c d → IsWord s by
    → HasValue a (λ v. shifted shift (value s v x) (number (word_bit s v by) 5)) low
    → HasValue b (λ v. 31) most → HasValue c (λ v. 0) none
    → Says d (λ v. nat_lt (value c v most) (value c v by)) far
    → HasValue e (λ v. if bit d v far then value d v none else value d v low) w
    → HasValue e (λ v. if nat_lt (value s v by) 32 then shifted shift (value s v x) (value s v by) else 0) w
far-value s a b c d e shift x by low most none w far sa ab bc cd hby hl hm hn hf hw = record {
  inside = hw.inside;
  is = λ v.
      let n = value s v x in
      let k = number (word_bit s v by) 5 in
      let sc = grew_more s b c (grew_more s a b sa ab) bc in
      let ad = grew_more a c d (grew_more a b c ab bc) cd in
      hw.is v
      ∙ ap (λ (t : Bool). if t then value d v none else value d v low)
      (bit-says d (λ u. nat_lt (value c u most) (value c u by)) far hf v
      ∙ ap (λ m. nat_lt m (value c v by)) (value-grown b c most bc hm.inside v ∙ hm.is v)
      ∙ ap (nat_lt 31) (value-grown s c by sc hby v))
      ∙ ap (λ m. if nat_lt 31 (value s v by) then m else value d v low) (value-grown c d none cd hn.inside v ∙ hn.is v)
      ∙ ap (λ m. if nat_lt 31 (value s v by) then 0 else m) (value-grown a d low ad hl.inside v ∙ hl.is v)
      ∙ far-or-not shift n (value s v by) k (low-bits s v by);
}

pub shift-calculates : (a b : List Node) (f : Arithmetic) (shift : Shift) (x by w : Word)
    → ((n k : ℕ) → calculated f n k ≡ Some (if nat_lt k 32 then shifted shift n k else 0))
    → HasValue b (λ v. if nat_lt (value a v by) 32 then shifted shift (value a v x) (value a v by) else 0) w → Calculates a b f x by w
shift-calculates a b f shift x by w same h = record {
  inside = h.inside;
  is = λ v. subst (λ o. IfSome o (λ n. value b v w ≡ n)) (sym (same (value a v x) (value a v by))) (h.is v);
}

-- ---- Products

-- a sum that gets no more, since the bit says No
pub skip-value : (a : List Node) (sum x : Word) (count test : ℕ) → IsWord a sum → ((v : ℕ → Bool) → answer a v test ≡ Final 0 false)
    → HasValue a (λ v. (value a v sum + (if bit a v test then shifted Left (value a v x) count else 0)) % 2 ^ 32) sum
skip-value a sum x count test hs none = record {
  inside = hs;
  is = λ v.
      let n = value a v sum in
      let e : n ≡ n + 0 = omega arith in
      sym (ap (λ t. (n + (if is_yes t then shifted Left (value a v x) count else 0)) % 2 ^ 32) (none v)
      ∙ ap (λ m. m % 2 ^ 32) (sym e) ∙ mod-eq_of_lt (value-below a sum v));
}

pub part-value : (s a b c d : List Node) (sum x m none part w : Word) (count test : ℕ) → Grew s a → Grew a b → Grew b c → IsWord s sum → IsBit s test
    → HasValue a (λ v. shifted Left (value s v x) count) m → HasValue b (λ v. 0) none
    → HasValue c (λ v. if bit b v test then value b v m else value b v none) part → Calculates c d codes.Add sum part w
    → HasValue d (λ v. (value s v sum + (if bit s v test then shifted Left (value s v x) count else 0)) % 2 ^ 32) w
part-value s a b c d sum x m none part w count test sa ab bc hs ht hm hn hp h = record {
  inside = h.inside;
  is = λ v.
      let sb = grew_more s a b sa ab in
      let p = shifted Left (value s v x) count in
      h.is v
      ∙ ap (λ n. (n + value c v part) % 2 ^ 32) (value-grown s c sum (grew_more s b c sb bc) hs v)
      ∙ ap (λ n. (value s v sum + n) % 2 ^ 32)
      (hp.is v
      ∙ ap (λ (t : Bool). if t then value b v m else value b v none) (bit-grown s b test sb ht v)
      ∙ ap (λ n. if bit s v test then n else value b v none) (value-grown a b m ab hm.inside v ∙ hm.is v)
      ∙ ap (λ n. if bit s v test then p else n) (hn.is v));
}

pub product-value : (s l h : List Node) (x y p w : Word) (i : ℕ) → Grew s l → IsWord s x → IsWord s y → i < 32
    → HasValue l (λ v. (value s v x * number (word_bit s v y) i) % 2 ^ 32) p
    → HasValue h (λ v. (value l v p + (if bit l v (slice_index y.bits i) then shifted Left (value l v x) i else 0)) % 2 ^ 32) w
    → HasValue h (λ v. (value s v x * number (word_bit s v y) (i + 1)) % 2 ^ 32) w
product-value s l h x y p w i sl hx hy less hp hw = record {
  inside = hw.inside;
  is = λ v.
      let n = value s v x in
      let k = number (word_bit s v y) i in
      let t = slice_index y.bits i in
      hw.is v
      ∙ ap (λ m. (m + (if bit l v t then shifted Left (value l v x) i else 0)) % 2 ^ 32) (hp.is v)
      ∙ ap (λ (b : Bool). ((n * k) % 2 ^ 32 + (if b then shifted Left (value l v x) i else 0)) % 2 ^ 32) (bit-grown s l t sl (hy i less) v)
      ∙ ap (λ m. ((n * k) % 2 ^ 32 + (if word_bit s v y i then shifted Left m i else 0)) % 2 ^ 32) (value-grown s l x sl hx v)
      ∙ product-part n k i (2 ^ 32) (word_bit s v y i)
      ∙ ap (λ m. (n * m) % 2 ^ 32) (sym (number-more-bits (word_bit s v y) i));
}

pub product-calculates : (a b : List Node) (x y w : Word) → HasValue b (λ v. (value a v x * number (word_bit a v y) 32) % 2 ^ 32) w → Calculates a b codes.Multiply x y w
unfolding value
product-calculates a b x y w h = record { inside = h.inside; is = λ v. h.is v }

-- ---- Constants

pub value-is : (a : List Node) (w : Word) (v : ℕ → Bool) (n : ℕ) → number (word_bit a v w) 32 ≡ n → value a v w ≡ n
unfolding value
value-is a w v n h = h
