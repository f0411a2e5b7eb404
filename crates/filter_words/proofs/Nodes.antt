-- Nodes that are bits, words of them, and tables that grow.
use Rattle.std.proofs.Common.{◌≡◌, ℕ, ◌+◌, ◌^◌, ◌<◌, ◌≢◌, Bool, true, false, cond, List, length, set, refl, sym, ap, ◌∙◌, arith, subst, below_more, get_or-set_other, get_or-set_same}
use Rattle.std.specs.Prelude.{slice_index, not, if◌then◌else◌}
use Rattle.bpfvm.specs.Codes as codes
use Rattle.filter_bdd.specs.declared.answer.Answer.TheVariants.{Final}
use Rattle.filter_bdd.specs.declared.answer.Operation.{Operation}
use Rattle.filter_bdd.specs.declared.answer.Operation.TheVariants.{And, Or, Xor, Ite, Agree, Apart, Cut}
use Rattle.filter_bdd.specs.declared.table.Node.{Node}
use Rattle.filter_bdd.specs.Answers.{joined, ite_answer, differs}
use Rattle.filter_bdd.specs.Diagrams.{answer, Gives, Grew}
use Rattle.filter_bdd.proofs.Tables.{grown-answer, grown_more, grown_same}
use Rattle.filter_bdd.proofs.Calls.{gives-grown, gives-as}
use Rattle.filter_words.specs.declared.word.Word.{Word}
use Rattle.filter_words.specs.Words.{number, is_yes, bit, Says, IsBit, word_bit, IsWord, value, HasValue, Calculates}
use Rattle.filter_words.specs.Steps.{AreBits, HasBits, joined_bit, chosen}
use Rattle.filter_words.proofs.Numbers.{number-below, number-same, number-and, number-or, number-xor}

-- ---- Bits

pub bit-says : (a : List Node) (f : (ℕ → Bool) → Bool) (i : ℕ) → Says a f i → (v : ℕ → Bool) → bit a v i ≡ f v
bit-says a f i h v = ap is_yes (h.says v)

pub is-bit : (a : List Node) (f : (ℕ → Bool) → Bool) (i : ℕ) → Says a f i → IsBit a i
is-bit a f i h = record { inside = h.inside; says = λ v. h.says v ∙ ap (Final 0) (sym (bit-says a f i h v)) }

pub bit-grown : (a b : List Node) (i : ℕ) → Grew a b → IsBit a i → (v : ℕ → Bool) → bit b v i ≡ bit a v i
bit-grown a b i g h v = ap is_yes (grown-answer v a b g i h.inside)

pub says-grown : (a b : List Node) (f : (ℕ → Bool) → Bool) (i : ℕ) → Grew a b → Says a f i → Says b f i
says-grown a b f i g h = gives-grown a b (λ v. Final 0 (f v)) i g h

pub says-as : (a : List Node) (f g : (ℕ → Bool) → Bool) (i : ℕ) → ((v : ℕ → Bool) → f v ≡ g v) → Says a f i → Says a g i
says-as a f g i same h = gives-as a (λ v. Final 0 (f v)) (λ v. Final 0 (g v)) i (λ v. ap (Final 0) (same v)) h

pub is_bit_grown : (a b : List Node) (i : ℕ) → Grew a b → IsBit a i → IsBit b i
is_bit_grown a b i g h = is-bit b (λ v. bit a v i) i (says-grown a b (λ v. bit a v i) i g h)

-- an operation on two bits gives a bit
joined-pure : (o : Operation) (p q : Bool) → joined o (Final 0 p) (Final 0 q) ≡ Final 0 (joined_bit o p q)
joined-pure And true true = refl
joined-pure And true false = refl
joined-pure And false true = refl
joined-pure And false false = refl
joined-pure Or true true = refl
joined-pure Or true false = refl
joined-pure Or false true = refl
joined-pure Or false false = refl
joined-pure Xor p q = refl
joined-pure Ite true true = refl
joined-pure Ite true false = refl
joined-pure Ite false true = refl
joined-pure Ite false false = refl
joined-pure Agree true true = refl
joined-pure Agree true false = refl
joined-pure Agree false true = refl
joined-pure Agree false false = refl
joined-pure Apart true true = refl
joined-pure Apart true false = refl
joined-pure Apart false true = refl
joined-pure Apart false false = refl
joined-pure Cut true true = refl
joined-pure Cut true false = refl
joined-pure Cut false true = refl
joined-pure Cut false false = refl

pub joined-says : (a b : List Node) (o : Operation) (x y i : ℕ) → IsBit a x → IsBit a y → Gives b (λ v. joined o (answer a v x) (answer a v y)) i
    → Says b (λ v. joined_bit o (bit a v x) (bit a v y)) i
joined-says a b o x y i hx hy h =
    gives-as b (λ v. joined o (answer a v x) (answer a v y)) (λ v. Final 0 (joined_bit o (bit a v x) (bit a v y))) i
    (λ v. ap (λ p. joined o p (answer a v y)) (hx.says v) ∙ ap (λ q. joined o (Final 0 (bit a v x)) q) (hy.says v) ∙ joined-pure o (bit a v x) (bit a v y)) h

chosen-pure : (t p q : Bool) → ite_answer (Final 0 t) (Final 0 p) (Final 0 q) ≡ Final 0 (chosen t p q)
chosen-pure true p q = refl
chosen-pure false p q = refl

pub chosen-says : (a b : List Node) (t x y i : ℕ) → IsBit a t → IsBit a x → IsBit a y → Gives b (λ v. ite_answer (answer a v t) (answer a v x) (answer a v y)) i
    → Says b (λ v. chosen (bit a v t) (bit a v x) (bit a v y)) i
chosen-says a b t x y i ht hx hy h =
    gives-as b (λ v. ite_answer (answer a v t) (answer a v x) (answer a v y)) (λ v. Final 0 (chosen (bit a v t) (bit a v x) (bit a v y))) i
    (λ v. ap (λ p. ite_answer p (answer a v x) (answer a v y)) (ht.says v)
    ∙ ap (λ p. ite_answer (Final 0 (bit a v t)) p (answer a v y)) (hx.says v)
    ∙ ap (λ p. ite_answer (Final 0 (bit a v t)) (Final 0 (bit a v x)) p) (hy.says v)
    ∙ chosen-pure (bit a v t) (bit a v x) (bit a v y)) h

-- ---- Words

pub word_grown : (a b : List Node) (w : Word) → Grew a b → IsWord a w → IsWord b w
word_grown a b w g h = λ k less. is_bit_grown a b (slice_index w.bits k) g (h k less)

-- a word of a table that grew is the number that it was
pub value-grown : (a b : List Node) (w : Word) → Grew a b → IsWord a w → (v : ℕ → Bool) → value b v w ≡ value a v w
unfolding value
value-grown a b w g h v = number-same (word_bit b v w) (word_bit a v w) 32 (λ k less. bit-grown a b (slice_index w.bits k) g (h k less) v)

pub value-below : (a : List Node) (w : Word) (v : ℕ → Bool) → value a v w < 2 ^ 32
unfolding value
value-below a w v = number-below (word_bit a v w) 32

pub bits-word : (a : List Node) (f : (ℕ → Bool) → ℕ → Bool) (w : Word) → HasBits a f w → IsWord a w
bits-word a f w h = λ k less. is-bit a (λ v. f v k) (slice_index w.bits k) (h k less)

pub bits-value : (a : List Node) (f : (ℕ → Bool) → ℕ → Bool) (w : Word) → HasBits a f w → (v : ℕ → Bool) → value a v w ≡ number (f v) 32
unfolding value
bits-value a f w h v = number-same (word_bit a v w) (f v) 32 (λ k less. bit-says a (λ u. f u k) (slice_index w.bits k) (h k less) v)

pub has-value : (a : List Node) (f : (ℕ → Bool) → ℕ → Bool) (n : (ℕ → Bool) → ℕ) (w : Word) → HasBits a f w → ((v : ℕ → Bool) → number (f v) 32 ≡ n v) → HasValue a n w
has-value a f n w h same = record { inside = bits-word a f w h; is = λ v. bits-value a f w h v ∙ same v }

pub value-as : (a : List Node) (f g : (ℕ → Bool) → ℕ) (w : Word) → ((v : ℕ → Bool) → f v ≡ g v) → HasValue a f w → HasValue a g w
value-as a f g w same h = record { inside = h.inside; is = λ v. h.is v ∙ same v }

pub has_value_grown : (a b : List Node) (f : (ℕ → Bool) → ℕ) (w : Word) → Grew a b → HasValue a f w → HasValue b f w
has_value_grown a b f w g h = record { inside = word_grown a b w g h.inside; is = λ v. value-grown a b w g h.inside v ∙ h.is v }

-- ---- Loops over the bits of a word

pub bits-none : (a : List Node) (f : (ℕ → Bool) → ℕ → Bool) (bits : List ℕ) → AreBits a f bits 0
bits-none a f bits = λ k less. absurd (omega arith)

-- one more bit, in a table that grew
pub bits-more : (a b : List Node) (f : (ℕ → Bool) → ℕ → Bool) (bits : List ℕ) (i node : ℕ) → Grew a b → i < length bits → AreBits a f bits i
    → Says b (λ v. f v i) node → AreBits b f (set bits i node) (i + 1)
bits-more a b f bits i node g inside h here =
    below_more (λ k. Says b (λ v. f v k) (slice_index (set bits i node) k)) i
    (λ k less. let other : k ≢ i = omega arith in
    subst (λ n. Says b (λ v. f v k) n) (sym (get_or-set_other bits i k node 0 other)) (says-grown a b (λ v. f v k) (slice_index bits k) g (h k less)))
    (subst (λ n. Says b (λ v. f v i) n) (sym (get_or-set_same bits i node 0 inside)) here)

-- ---- What the machine calculates

pub and-calculates : (a b : List Node) (x y w : Word) → HasBits b (λ v k. joined_bit And (word_bit a v x k) (word_bit a v y k)) w → Calculates a b codes.And x y w
unfolding value
and-calculates a b x y w h =
    let f = λ (v : ℕ → Bool) (k : ℕ). joined_bit And (word_bit a v x k) (word_bit a v y k) in
    record { inside = bits-word b f w h; is = λ v. bits-value b f w h v ∙ number-and (word_bit a v x) (word_bit a v y) 32 }

pub or-calculates : (a b : List Node) (x y w : Word) → HasBits b (λ v k. joined_bit Or (word_bit a v x k) (word_bit a v y k)) w → Calculates a b codes.Or x y w
unfolding value
or-calculates a b x y w h =
    let f = λ (v : ℕ → Bool) (k : ℕ). joined_bit Or (word_bit a v x k) (word_bit a v y k) in
    record { inside = bits-word b f w h; is = λ v. bits-value b f w h v ∙ number-or (word_bit a v x) (word_bit a v y) 32 }

pub xor-calculates : (a b : List Node) (x y w : Word) → HasBits b (λ v k. joined_bit Xor (word_bit a v x k) (word_bit a v y k)) w → Calculates a b codes.ExclusiveOr x y w
unfolding value
xor-calculates a b x y w h =
    let f = λ (v : ℕ → Bool) (k : ℕ). joined_bit Xor (word_bit a v x k) (word_bit a v y k) in
    record { inside = bits-word b f w h; is = λ v. bits-value b f w h v ∙ number-xor (word_bit a v x) (word_bit a v y) 32 }

-- ---- Nodes that were made

cond-pure : (b : Bool) → cond b (Final 0 true) (Final 0 false) ≡ Final 0 b
cond-pure true = refl
cond-pure false = refl

pub variable-says : (a b c : List Node) (name low high i : ℕ) → Grew a b → Says a (λ v. false) low → Says b (λ v. true) high
    → Gives c (λ v. cond (v name) (answer b v high) (answer b v low)) i → Says c (λ v. v name) i
variable-says a b c name low high i g hl hh h =
    gives-as c (λ v. cond (v name) (answer b v high) (answer b v low)) (λ v. Final 0 (v name)) i
    (λ v. ap (λ p. cond (v name) p (answer b v low)) (hh.says v)
    ∙ ap (λ p. cond (v name) (Final 0 true) p) (grown-answer v a b g low hl.inside ∙ hl.says v)
    ∙ cond-pure (v name)) h

pub opposite-says : (a b c : List Node) (all x i : ℕ) → Grew a b → IsBit a x → Says b (λ v. true) all
    → Says c (λ v. joined_bit Xor (bit b v all) (bit b v x)) i → Says c (λ v. not (bit a v x)) i
opposite-says a b c all x i g hx ha h =
    says-as c (λ v. joined_bit Xor (bit b v all) (bit b v x)) (λ v. not (bit a v x)) i
    (λ v. ap (λ p. differs p (bit b v x)) (bit-says b (λ u. true) all ha v) ∙ ap not (bit-grown a b x g hx v)) h

-- ---- Tables that grow

pub grew_more : (a b c : List Node) → Grew a b → Grew b c → Grew a c
grew_more a b c g h = grown_more a b c g h

pub grew_same : (a b : List Node) → b ≡ a → Grew a b
grew_same a b e = grown_same a b e

pub same-two : (f : Bool → Bool → Bool) (a b x y : Bool) → a ≡ x → b ≡ y → f a b ≡ f x y
same-two f a b x y p q = ap (λ t. f t b) p ∙ ap (f x) q

pub same-three : (f : Bool → Bool → Bool → Bool) (a b c x y z : Bool) → a ≡ x → b ≡ y → c ≡ z → f a b c ≡ f x y z
same-three f a b c x y z p q r = ap (λ t. f t b c) p ∙ ap (λ t. f x t c) q ∙ ap (f x y) r

pub fixed-says : (a : List Node) (b : Bool) (one other : ℕ) → Says a (λ v. true) one → Says a (λ v. false) other → Says a (λ v. b) (if b then one else other)
fixed-says a true one other h k = h
fixed-says a false one other h k = k
