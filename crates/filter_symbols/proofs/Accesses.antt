-- What is read at an index, where a condition holds.
use Rattle.std.proofs.Common.{◌≡◌, ℕ, ◌+◌, ◌*◌, ◌^◌, ◌<◌, Bool, true, false, List, length, refl, sym, ap, ◌∙◌, arith, subst}
use Rattle.std.specs.Prelude.{slice_index, if◌then◌else◌, Option, Result, Ok, Err, IfOk}
use Rattle.bpfvm.specs.Machine.{number_at}
use Rattle.filter_meaning.specs.Meaning.{Packet, bytes_of}
use Rattle.filter_bdd.specs.declared.answer.Answer.TheVariants.{Final}
use Rattle.filter_bdd.specs.declared.table.Node.{Node}
use Rattle.filter_bdd.specs.Answers.{ite_answer}
use Rattle.filter_bdd.specs.Diagrams.{answer, Gives, Grew}
use Rattle.filter_bdd.specs.Fields.{digit}
use Rattle.filter_bdd.proofs.Tables.{grown_more}
use Rattle.filter_words.specs.declared.word.Word.{Word}
use Rattle.filter_words.specs.Words.{number, is_yes, bit, Says, IsBit, word_bit, IsWord, value, HasValue}
use Rattle.filter_words.specs.Steps.{chosen}
use Rattle.filter_words.proofs.Numbers.{number-same, number-more-bits, number-none}
use Rattle.filter_words.proofs.Nodes.{bit-says, is-bit, bit-grown, is_bit_grown, value-grown, same-three}
use Rattle.filter_symbols.specs.declared.symbol.Symbol.{Symbol}
use Rattle.filter_symbols.specs.declared.symbol.Symbols.{Symbols}
use Rattle.filter_symbols.specs.declared.load.Access.{Access}
use Rattle.filter_symbols.specs.Packets.{bit_of, verdict_of, verdict_at}
use Rattle.filter_symbols.specs.Symbols.{IsSymbol, Is, StandsFor, Extends}
use Rattle.filter_symbols.specs.Steps.{IsNarrowed, read_by, ReadsWhere}
use Rattle.filter_symbols.proofs.Stands.{head-back, verdict-grown, chosen-verdict, is-grown, is-as}

-- ---- Conditions

chosen-one : (n c : Bool) → chosen n c false ≡ true → (c ≡ true) × (n ≡ true)
chosen-one true c h = (h, refl)
chosen-one false c h = absurd cc

chosen-zero : (n c : Bool) → chosen n false c ≡ true → (c ≡ true) × (n ≡ false)
chosen-zero true c h = absurd cc
chosen-zero false c h = (h, refl)

pub narrowed-one : (a b d : List Node) (condition node none i : ℕ) → Grew a b → IsBit a condition → IsBit a node → Says b (λ v. false) none
    → Says d (λ v. chosen (bit b v node) (bit b v condition) (bit b v none)) i → IsNarrowed a d condition node true i
narrowed-one a b d condition node none i g hc hn hz h =
    let says = λ (v : ℕ → Bool). bit-says d (λ u. chosen (bit b u node) (bit b u condition) (bit b u none)) i h v
    ∙ same-three chosen (bit b v node) (bit b v condition) (bit b v none) (bit a v node) (bit a v condition) false
    (bit-grown a b node g hn v) (bit-grown a b condition g hc v) (bit-says b (λ u. false) none hz v) in
    record {
      inside = is-bit d (λ v. chosen (bit b v node) (bit b v condition) (bit b v none)) i h;
      holds = λ v yes' one. says v ∙ ap (λ n. chosen n (bit a v condition) false) one ∙ yes';
      first = λ v e. (chosen-one (bit a v node) (bit a v condition) (sym (says v) ∙ e)).0;
      second = λ v e. (chosen-one (bit a v node) (bit a v condition) (sym (says v) ∙ e)).1;
    }

pub narrowed-zero : (a b d : List Node) (condition node none i : ℕ) → Grew a b → IsBit a condition → IsBit a node → Says b (λ v. false) none
    → Says d (λ v. chosen (bit b v node) (bit b v none) (bit b v condition)) i → IsNarrowed a d condition node false i
narrowed-zero a b d condition node none i g hc hn hz h =
    let says = λ (v : ℕ → Bool). bit-says d (λ u. chosen (bit b u node) (bit b u none) (bit b u condition)) i h v
    ∙ same-three chosen (bit b v node) (bit b v none) (bit b v condition) (bit a v node) false (bit a v condition)
    (bit-grown a b node g hn v) (bit-says b (λ u. false) none hz v) (bit-grown a b condition g hc v) in
    record {
      inside = is-bit d (λ v. chosen (bit b v node) (bit b v none) (bit b v condition)) i h;
      holds = λ v yes' off. says v ∙ ap (λ n. chosen n false (bit a v condition)) off ∙ yes';
      first = λ v e. (chosen-zero (bit a v node) (bit a v condition) (sym (says v) ∙ e)).0;
      second = λ v e. (chosen-zero (bit a v node) (bit a v condition) (sym (says v) ∙ e)).1;
    }

-- ---- One of two symbols

chosen-guard : (a b d : List Node) (test : ℕ) (one off : Symbol) (i : ℕ) (p : Packet) → Grew a b → IsBit a test → IsSymbol a one → IsSymbol a off
    → Gives d (λ v. ite_answer (answer b v test) (answer b v one.guard) (answer b v off.guard)) i
    → verdict_at d i p ≡ (if bit a (bit_of p) test then verdict_at a one.guard p else verdict_at a off.guard p)
chosen-guard a b d test one off i p g ht ho hz h =
    let c = length p.captured in
    let v = bit_of p in
    let hb = is_bit_grown a b test g ht in
    ap (verdict_of c) (h.says v)
    ∙ ap (λ t. verdict_of c (ite_answer t (answer b v one.guard) (answer b v off.guard))) (hb.says v)
    ∙ chosen-verdict c (answer b v one.guard) (answer b v off.guard) (bit b v test)
    ∙ ap (λ (t : Bool). if t then verdict_at b one.guard p else verdict_at b off.guard p) (bit-grown a b test g ht v)
    ∙ ap (λ x. if bit a v test then x else verdict_at b off.guard p) (verdict-grown a b one.guard p g ho.guard)
    ∙ ap (λ x. if bit a v test then verdict_at a one.guard p else x) (verdict-grown a b off.guard p g hz.guard)

pub chosen-is : (a b d : List Node) (test : ℕ) (one off s : Symbol) → Grew a b → Grew b d → IsBit a test → IsSymbol a one → IsSymbol a off
    → HasValue b (λ v. if bit a v test then value a v one.word else value a v off.word) s.word
    → Gives d (λ v. ite_answer (answer b v test) (answer b v one.guard) (answer b v off.guard)) s.guard
    → (t : Bool) (p : Packet) (n : Option ℕ) → bit a (bit_of p) test ≡ t → Is a p (if t then one else off) n → Is d p s n
chosen-is a b d test one off s g h ht ho hz word guard true p n said is =
    is-as a d p one s n
    (chosen-guard a b d test one off s.guard p g ht ho hz guard ∙ ap (λ (t : Bool). if t then verdict_at a one.guard p else verdict_at a off.guard p) said)
    (value-grown b d s.word h word.inside (bit_of p) ∙ word.is (bit_of p) ∙ ap (λ (t : Bool). if t then value a (bit_of p) one.word else value a (bit_of p) off.word) said)
    is
chosen-is a b d test one off s g h ht ho hz word guard false p n said is =
    is-as a d p off s n
    (chosen-guard a b d test one off s.guard p g ht ho hz guard ∙ ap (λ (t : Bool). if t then verdict_at a one.guard p else verdict_at a off.guard p) said)
    (value-grown b d s.word h word.inside (bit_of p) ∙ word.is (bit_of p) ∙ ap (λ (t : Bool). if t then value a (bit_of p) one.word else value a (bit_of p) off.word) said)
    is

-- ---- The bits of an index, one after the other

-- with one more bit that is known
pub known-next : (s b : List Node) (index : Word) (below known more : ℕ) (one : Bool) (v : ℕ → Bool) → Grew s b → IsWord s index → below < 32
    → value s v index ≡ known + number (word_bit s v index) (below + 1) → bit s v (slice_index index.bits below) ≡ one → more ≡ known + 2 ^ below * digit one
    → value b v index ≡ more + number (word_bit b v index) below
known-next s b index below known more one v g h less is here next =
    let low = number (word_bit s v index) below in
    let turned : known + (low + 2 ^ below * digit one) ≡ (known + 2 ^ below * digit one) + low = omega arith in
    value-grown s b index g h v ∙ is ∙ ap (λ n. known + n) (number-more-bits (word_bit s v index) below)
    ∙ ap (λ c. known + (low + 2 ^ below * digit c)) here ∙ turned
    ∙ ap (λ n. n + low) (sym next)
    ∙ ap (λ n. more + n) (number-same (word_bit s v index) (word_bit b v index) below (λ k under. sym (bit-grown s b (slice_index index.bits k) g (h k (omega arith)) v)))

read-grown : (a b : List Node) (access : Access) (p : Packet) → Grew a b → IsWord a access.index → read_by b access p ≡ read_by a access p
read-grown a b access p g h = ap (λ n. number_at p.captured (access.base + n) (bytes_of access.size)) (value-grown a b access.index g h (bit_of p))

-- an index that is known
pub reads-known : (x y : Symbols) (access : Access) (condition known : ℕ) (s : Symbol)
    → ((v : ℕ → Bool) → bit x.words.diagrams v condition ≡ true → value x.words.diagrams v access.index ≡ known)
    → StandsFor y (λ p. number_at p.captured (access.base + known) (bytes_of access.size)) s → ReadsWhere x y access condition s
reads-known x y access condition known s is h = record {
  inside = h.inside;
  is = λ p ok head said. subst (λ n. Is y.words.diagrams p s (number_at p.captured (access.base + n) (bytes_of access.size))) (sym (is (bit_of p) said)) (h.is p ok head);
}

-- what is read where another condition holds too
pub reads-by : (x y z : Symbols) (access : Access) (condition other : ℕ) (s : Symbol) → Grew x.words.diagrams y.words.diagrams → IsWord x.words.diagrams access.index
    → ((v : ℕ → Bool) → bit x.words.diagrams v condition ≡ true → bit y.words.diagrams v other ≡ true) → ReadsWhere y z access other s → ReadsWhere x z access condition s
reads-by x y z access condition other s g h holds reads = record {
  inside = reads.inside;
  is = λ p ok head said. subst (Is z.words.diagrams p s) (read-grown x.words.diagrams y.words.diagrams access p g h) (reads.is p ok head (holds (bit_of p) said));
}

-- what is read by the bits of a node, each way
pub reads-both : (x y z u w : Symbols) (access : Access) (condition test low high : ℕ) (off one s : Symbol)
    → Extends x y → Extends y z → Extends z u → Extends u w → IsWord x.words.diagrams access.index → IsBit x.words.diagrams test
    → ((v : ℕ → Bool) → bit x.words.diagrams v condition ≡ true → bit x.words.diagrams v test ≡ false → bit y.words.diagrams v low ≡ true)
    → ((v : ℕ → Bool) → bit x.words.diagrams v condition ≡ true → bit x.words.diagrams v test ≡ true → bit z.words.diagrams v high ≡ true)
    → ReadsWhere y z access low off → ReadsWhere z u access high one → IsSymbol w.words.diagrams s
    → ((p : Packet) (n : Option ℕ) → bit u.words.diagrams (bit_of p) test ≡ true → Is u.words.diagrams p one n → Is w.words.diagrams p s n)
    → ((p : Packet) (n : Option ℕ) → bit u.words.diagrams (bit_of p) test ≡ false → Is u.words.diagrams p off n → Is w.words.diagrams p s n)
    → ReadsWhere x w access condition s
reads-both x y z u w access condition test low high off one s xy yz zu uw index bits at_low at_high hz ho inside by_one by_zero = record {
  inside = inside;
  is = λ p ok head said.
      let v = bit_of p in
      let xz = grown_more x.words.diagrams y.words.diagrams z.words.diagrams xy.grew yz.grew in
      let xu = grown_more x.words.diagrams z.words.diagrams u.words.diagrams xz zu.grew in
      let head_u = head-back u w p uw head in
      let head_z = head-back z u p zu head_u in
      let kept = bit-grown x.words.diagrams u.words.diagrams test xu bits v in
      either (bit x.words.diagrams v test) refl
      (λ one'. by_one p (read_by x.words.diagrams access p) (kept ∙ one')
      (subst (Is u.words.diagrams p one) (read-grown x.words.diagrams z.words.diagrams access p xz index) (ho.is p ok head_u (at_high v said one'))))
      (λ zero'. by_zero p (read_by x.words.diagrams access p) (kept ∙ zero')
      (is-grown z.words.diagrams u.words.diagrams p off (read_by x.words.diagrams access p) zu.grew hz.inside
      (subst (Is z.words.diagrams p off) (read-grown x.words.diagrams y.words.diagrams access p xy.grew index) (hz.is p ok head_z (at_low v said zero')))));
}
  where
    either : {P : Type 0} (b : Bool) {c : Bool} → c ≡ b → (c ≡ true → P) → (c ≡ false → P) → P
    either true e f g = f e
    either false e f g = g e

-- where a condition never holds nothing is asked
pub reads-never : (x y : Symbols) (access : Access) (condition : ℕ) (s : Symbol) → ((v : ℕ → Bool) → answer x.words.diagrams v condition ≡ Final 0 false)
    → IsSymbol y.words.diagrams s → ReadsWhere x y access condition s
reads-never x y access condition s never inside = record {
  inside = inside;
  is = λ p ok head said. absurd (let e : true ≡ false = sym said ∙ ap is_yes (never (bit_of p)) in let f : ⊥ = cc in f);
}

-- an index whose bits are all known
pub known-all : (s : List Node) (index : Word) (known place : ℕ) (v : ℕ → Bool) → place ≡ 0 → value s v index ≡ known + number (word_bit s v index) place → value s v index ≡ known
known-all s index known place v none is =
    is ∙ ap (λ k. known + number (word_bit s v index) k) none ∙ ap (λ n. known + n) (number-none (word_bit s v index))
    ∙ (let e : known + 0 ≡ known = omega arith in e)

pub map-both : {T E : Type 0} (r : Result T E) {P Q R S : T → Type 0} → ((x : T) → P x → Q x → R x → S x) → IfOk r P → IfOk r Q → IfOk r R → IfOk r S
map-both (Ok x) f g h k = f x g h k
map-both (Err e) f g h k = tt
