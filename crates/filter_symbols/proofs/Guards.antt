-- Guards, and the symbols that loads, operators and comparisons make.
use Rattle.std.proofs.Common.{◌≡◌, ℕ, ◌+◌, ◌*◌, ◌%◌, ◌^◌, ◌<◌, ◌⊎◌, inl, inr, Bool, true, false, List, length, take, drop, refl, sym, ap, ◌∙◌, arith, subst}
use Rattle.std.specs.Prelude.{◌==◌, if◌then◌else◌, nat_le, Option, Some, None, option_and_then, IfSome, bit_and}
use Rattle.std.proofs.lemmas.Bool.{cases_lt}
use Rattle.bpfvm.specs.Codes.{Arithmetic}
use Rattle.bpfvm.specs.Codes as codes
use Rattle.bpfvm.specs.Machine.{number_at, calculated, holds, big_endian}
use Rattle.filter_meaning.specs.declared.verdict.Verdict.TheVariants.{Yes, No, Abort}
use Rattle.filter_meaning.specs.Meaning.{Packet, and_then, decided, check_both, bytes_of, byte, in_frame, behind_header, accessed, arithmetic_of}
use Rattle.filter_meaning.specs.Meaning.{value as value_of}
use Rattle.filter_tree.specs.Trees.{Amount}
use Rattle.filter_tree.specs.Trees as trees
use Rattle.filter_tree.specs.declared.tree.Layer.{Layer}
use Rattle.filter_tree.specs.declared.tree.Layer.TheVariants as layers
use Rattle.filter_tree.specs.declared.tree.Operator.{Operator}
use Rattle.filter_tree.specs.declared.tree.Size.{Size}
use Rattle.filter_meaning.proofs.Numbers as numbers
use Rattle.filter_bdd.specs.declared.answer.Answer.{Answer}
use Rattle.filter_bdd.specs.declared.answer.Answer.TheVariants.{Final, Never}
use Rattle.filter_bdd.specs.declared.answer.Operation.TheVariants.{And}
use Rattle.filter_bdd.specs.declared.table.Node.{Node}
use Rattle.filter_bdd.specs.Answers.{and_answer, ite_answer, joined}
use Rattle.filter_bdd.specs.Diagrams.{answer, Gives, Grew}
use Rattle.filter_bdd.proofs.Tables.{grown_more, grown-answer}
use Rattle.filter_words.specs.declared.word.Word.{Word}
use Rattle.filter_words.specs.Words.{number, word_bit, Says, IsWord, value, HasValue, Calculates}
use Rattle.filter_words.proofs.Nodes.{bit-says, word_grown, value-grown}
use Rattle.filter_symbols.specs.declared.symbol.Symbol.{Symbol}
use Rattle.filter_symbols.specs.declared.symbol.Symbols.{Symbols}
use Rattle.filter_symbols.specs.declared.load.Access.{Access}
use Rattle.filter_symbols.specs.Packets.{bit_of, verdict_of, verdict_at, HasHeader}
use Rattle.filter_symbols.specs.Symbols.{IsSymbol, Is, StandsFor, SaysOf, Extends}
use Rattle.filter_symbols.specs.Steps.{IsField, if_number, ReadsWhere, index_behind}
use Rattle.filter_symbols.proofs.Frames.{wire-number}
use Rattle.filter_symbols.proofs.Stands.{head-back, there, short, after-said, verdict-grown, chosen-verdict, symbol_grown, is-grown, is-as}

-- ---- Verdicts

verdict-and : (c : ℕ) (a b : Answer) → verdict_of c (and_answer a b) ≡ and_then (verdict_of c a) (verdict_of c b)
verdict-and c Never b = refl
verdict-and c (Final need false) b = elim (nat_le need c) as (λ t. (if t then No else Abort) ≡ and_then (if t then No else Abort) (verdict_of c b)) [ true ↦ refl | false ↦ refl ]
verdict-and c (Final need true) b =
    after-said c need b
    ∙ elim (nat_le need c) as (λ t. (if t then verdict_of c b else Abort) ≡ and_then (if t then Yes else Abort) (verdict_of c b)) [ true ↦ refl | false ↦ refl ]

-- what a node says that is `and` of two
pub both-says : (a b : List Node) (i j g : ℕ) (p : Packet) → Gives b (λ v. joined And (answer a v i) (answer a v j)) g
    → verdict_at b g p ≡ and_then (verdict_at a i p) (verdict_at a j p)
both-says a b i j g p h =
    let c = length p.captured in
    ap (verdict_of c) (h.says (bit_of p)) ∙ verdict-and c (answer a (bit_of p) i) (answer a (bit_of p) j)

-- what a node says that is Yes or No of each packet
pub bit-verdict : (a : List Node) (f : (ℕ → Bool) → Bool) (i : ℕ) (p : Packet) → Says a f i → verdict_at a i p ≡ decided (f (bit_of p))
bit-verdict a f i p h = ap (verdict_of (length p.captured)) (h.says (bit_of p)) ∙ there (length p.captured) 0 (f (bit_of p)) (omega arith)

-- ---- Loads

pub load-whole : (x y z w : Symbols) (index read s : Symbol) (access : Access) (always : ℕ) → Extends x y → Extends y z → Extends z w
    → access.index ≡ index.word → Says y.words.diagrams (λ v. true) always → ReadsWhere y z access always read
    → Gives w.words.diagrams (λ v. joined And (answer z.words.diagrams v index.guard) (answer z.words.diagrams v read.guard)) s.guard → s.word ≡ read.word
    → (f : Packet → Option ℕ) → StandsFor x f index
    → StandsFor w (λ p. option_and_then (λ i. number_at p.captured (access.base + i) (bytes_of access.size)) (f p)) s
load-whole x y z w index read s access always xy yz zw same yes' reads guard word f h = record {
  inside = record { guard = guard.inside; word = subst (IsWord w.words.diagrams) (sym word) (word_grown z.words.diagrams w.words.diagrams read.word zw.grew reads.inside.word) };
  is = λ p ok head.
      let v = bit_of p in
      let head_z = head-back z w p zw head in
      let head_x = head-back x y p xy (head-back y z p yz head_z) in
      let xz = grown_more x.words.diagrams y.words.diagrams z.words.diagrams xy.grew yz.grew in
      let said = both-says z.words.diagrams w.words.diagrams index.guard read.guard s.guard p guard in
      let kept = verdict-grown x.words.diagrams z.words.diagrams index.guard p xz h.inside.guard in
      let got = reads.is p ok head_z (bit-says y.words.diagrams (λ u. true) always yes' v) in
      let at_y : value y.words.diagrams v access.index ≡ value x.words.diagrams v index.word =
      ap (value y.words.diagrams v) same ∙ value-grown x.words.diagrams y.words.diagrams index.word xy.grew h.inside.word v in
      by p said kept
      (ap (value w.words.diagrams v) word ∙ value-grown z.words.diagrams w.words.diagrams read.word zw.grew reads.inside.word v)
      (subst (λ n. Is z.words.diagrams p read (number_at p.captured (access.base + n) (bytes_of access.size))) at_y got)
      (f p) (h.is p ok head_x);
}
  where
    by : (p : Packet) → verdict_at w.words.diagrams s.guard p ≡ and_then (verdict_at z.words.diagrams index.guard p) (verdict_at z.words.diagrams read.guard p)
        → verdict_at z.words.diagrams index.guard p ≡ verdict_at x.words.diagrams index.guard p
        → value w.words.diagrams (bit_of p) s.word ≡ value z.words.diagrams (bit_of p) read.word
        → Is z.words.diagrams p read (number_at p.captured (access.base + value x.words.diagrams (bit_of p) index.word) (bytes_of access.size))
        → (m : Option ℕ) → Is x.words.diagrams p index m → Is w.words.diagrams p s (option_and_then (λ i. number_at p.captured (access.base + i) (bytes_of access.size)) m)
    by p said kept word' got None is = said ∙ ap (λ u. and_then u (verdict_at z.words.diagrams read.guard p)) (kept ∙ is)
    by p said kept word' got (Some i) is =
        is-as z.words.diagrams w.words.diagrams p read s (number_at p.captured (access.base + i) (bytes_of access.size))
        (said ∙ ap (λ u. and_then u (verdict_at z.words.diagrams read.guard p)) (kept ∙ is.0)) word'
        (subst (λ n. Is z.words.diagrams p read (number_at p.captured (access.base + n) (bytes_of access.size))) is.1 got)

-- all bits of an index
pub load-all : (a : List Node) (w : Word) (v : ℕ → Bool) → value a v w ≡ 0 + number (word_bit a v w) 32
unfolding value
load-all a w v = let n = number (word_bit a v w) 32 in let e : n ≡ 0 + n = omega arith in e

-- ---- Operators

pub calculated-stands : (x y z w : Symbols) (o : Arithmetic) (first second s : Symbol) (both : ℕ) → Extends x y → Extends y z → Extends z w
    → IsSymbol x.words.diagrams first → IsSymbol x.words.diagrams second
    → Calculates x.words.diagrams y.words.diagrams o first.word second.word s.word
    → Gives z.words.diagrams (λ v. joined And (answer y.words.diagrams v first.guard) (answer y.words.diagrams v second.guard)) both
    → s.guard < length w.words.diagrams
    → ((p : Packet) (n : ℕ) → verdict_at w.words.diagrams s.guard p ≡ if_number (calculated o n (value z.words.diagrams (bit_of p) second.word)) (verdict_at z.words.diagrams both p))
    → (f g : Packet → Option ℕ) → StandsFor x f first → StandsFor x g second
    → StandsFor w (λ p. option_and_then (λ a. option_and_then (λ b. calculated o a b) (g p)) (f p)) s
calculated-stands x y z w o first second s both xy yz zw i1 i2 word guards inside guard f g hf hg = record {
  inside = record { guard = inside; word = word_grown y.words.diagrams w.words.diagrams s.word (grown_more y.words.diagrams z.words.diagrams w.words.diagrams yz.grew zw.grew) word.inside };
  is = λ p ok head.
      let v = bit_of p in
      let head_x = head-back x y p xy (head-back y z p yz (head-back z w p zw head)) in
      let a = x.words.diagrams in
      let b = y.words.diagrams in
      let c = z.words.diagrams in
      let d = w.words.diagrams in
      let said = both-says b c first.guard second.guard both p guards
      ∙ ap (λ t. and_then t (verdict_at b second.guard p)) (verdict-grown a b first.guard p xy.grew i1.guard)
      ∙ ap (λ t. and_then (verdict_at a first.guard p) t) (verdict-grown a b second.guard p xy.grew i2.guard) in
      let at_z = value-grown a c second.word (grown_more a b c xy.grew yz.grew) i2.word v in
      by p said (λ n. guard p n ∙ ap (λ m. if_number (calculated o n m) (verdict_at c both p)) at_z)
      (value-grown b d s.word (grown_more b c d yz.grew zw.grew) word.inside v) (word.is v) (f p) (g p) (hf.is p ok head_x) (hg.is p ok head_x);
}
  where
    none : (m : Option ℕ) → if_number m Abort ≡ Abort
    none None = refl
    none (Some n) = refl

    made : (p : Packet) (r : Option ℕ) → verdict_at w.words.diagrams s.guard p ≡ if_number r Yes
        → IfSome r (λ n. value w.words.diagrams (bit_of p) s.word ≡ n) → Is w.words.diagrams p s r
    made p None guarded is = guarded
    made p (Some n) guarded is = (guarded, is)

    some : (r : Option ℕ) (m k : ℕ) → m ≡ k → IfSome r (λ n. k ≡ n) → IfSome r (λ n. m ≡ n)
    some None m k e h = tt
    some (Some n) m k e h = e ∙ h

    by : (p : Packet) → verdict_at z.words.diagrams both p ≡ and_then (verdict_at x.words.diagrams first.guard p) (verdict_at x.words.diagrams second.guard p)
        → ((n : ℕ) → verdict_at w.words.diagrams s.guard p ≡ if_number (calculated o n (value x.words.diagrams (bit_of p) second.word)) (verdict_at z.words.diagrams both p))
        → value w.words.diagrams (bit_of p) s.word ≡ value y.words.diagrams (bit_of p) s.word
        → IfSome (calculated o (value x.words.diagrams (bit_of p) first.word) (value x.words.diagrams (bit_of p) second.word)) (λ n. value y.words.diagrams (bit_of p) s.word ≡ n)
        → (m k : Option ℕ) → Is x.words.diagrams p first m → Is x.words.diagrams p second k
        → Is w.words.diagrams p s (option_and_then (λ a. option_and_then (λ b. calculated o a b) k) m)
    by p said guarded kept word' None k is1 is2 =
        guarded 0 ∙ ap (if_number (calculated o 0 (value x.words.diagrams (bit_of p) second.word))) (said ∙ ap (λ t. and_then t (verdict_at x.words.diagrams second.guard p)) is1)
        ∙ none (calculated o 0 (value x.words.diagrams (bit_of p) second.word))
    by p said guarded kept word' (Some a) None is1 is2 =
        guarded 0 ∙ ap (if_number (calculated o 0 (value x.words.diagrams (bit_of p) second.word)))
        (said ∙ ap (λ t. and_then t (verdict_at x.words.diagrams second.guard p)) is1.0 ∙ is2)
        ∙ none (calculated o 0 (value x.words.diagrams (bit_of p) second.word))
    by p said guarded kept word' (Some a) (Some b) is1 is2 =
        made p (calculated o a b)
        (guarded a ∙ ap (λ n. if_number (calculated o a n) (verdict_at z.words.diagrams both p)) is2.1
        ∙ ap (if_number (calculated o a b)) (said ∙ ap (λ t. and_then t (verdict_at x.words.diagrams second.guard p)) is1.0 ∙ is2.0))
        (some (calculated o a b) (value w.words.diagrams (bit_of p) s.word) (value y.words.diagrams (bit_of p) s.word) kept
        (subst (λ n. IfSome (calculated o a n) (λ r. value y.words.diagrams (bit_of p) s.word ≡ r)) is2.1
        (subst (λ n. IfSome (calculated o n (value x.words.diagrams (bit_of p) second.word)) (λ r. value y.words.diagrams (bit_of p) s.word ≡ r)) is1.1 word')))

-- a guard that aborts where a divisor is 0
pub divisor-says : (a b c d e : List Node) (divisor zero' : Word) (none never guard i : ℕ) (p : Packet) → Grew a b → Grew b c → Grew c d → IsWord a divisor → guard < length a
    → HasValue b (λ v. 0) zero' → Says c (λ v. holds codes.Equal (value b v divisor) (value b v zero')) none → Gives d (λ v. Never) never
    → Gives e (λ v. ite_answer (answer d v none) (answer d v never) (answer d v guard)) i
    → verdict_at e i p ≡ (if value a (bit_of p) divisor == 0 then Abort else verdict_at a guard p)
divisor-says a b c d e divisor zero' none never guard i p ab bc cd hd hg hz hn never' h =
    let n = length p.captured in
    let v = bit_of p in
    let test = λ (u : ℕ → Bool). holds codes.Equal (value b u divisor) (value b u zero') in
    ap (verdict_of n) (h.says v)
    ∙ ap (λ t. verdict_of n (ite_answer t (answer d v never) (answer d v guard))) (grown-answer v c d cd none hn.inside ∙ hn.says v)
    ∙ chosen-verdict n (answer d v never) (answer d v guard) (test v)
    ∙ ap (λ x. if test v then verdict_of n x else verdict_at d guard p) (never'.says v)
    ∙ ap (λ x. if test v then Abort else x) (verdict-grown a d guard p (grown_more a c d (grown_more a b c ab bc) cd) hg)
    ∙ ap (λ x. if x == value b v zero' then Abort else verdict_at a guard p) (value-grown a b divisor ab hd v)
    ∙ ap (λ x. if value a v divisor == x then Abort else verdict_at a guard p) (hz.is v)

-- ---- Comparisons

pub compared-says : (x y z w : Symbols) (test : ℕ → ℕ → Bool) (first second : Symbol) (holds' both i : ℕ) → Extends x y → Extends y z → Extends z w
    → IsSymbol x.words.diagrams first → IsSymbol x.words.diagrams second
    → Says y.words.diagrams (λ v. test (value x.words.diagrams v first.word) (value x.words.diagrams v second.word)) holds'
    → Gives z.words.diagrams (λ v. joined And (answer y.words.diagrams v first.guard) (answer y.words.diagrams v second.guard)) both
    → Gives w.words.diagrams (λ v. joined And (answer z.words.diagrams v both) (answer z.words.diagrams v holds')) i
    → (f g : Packet → Option ℕ) → StandsFor x f first → StandsFor x g second
    → SaysOf w (λ p. check_both test (f p) (g p)) i
compared-says x y z w test first second holds' both i xy yz zw i1 i2 says guards whole f g hf hg = record {
  inside = whole.inside;
  says = λ p ok head.
      let head_x = head-back x y p xy (head-back y z p yz (head-back z w p zw head)) in
      let a = x.words.diagrams in
      let b = y.words.diagrams in
      let c = z.words.diagrams in
      let d = w.words.diagrams in
      let v = bit_of p in
      both-says c d both holds' i p whole
      ∙ ap (λ t. and_then t (verdict_at c holds' p)) (both-says b c first.guard second.guard both p guards
      ∙ ap (λ t. and_then t (verdict_at b second.guard p)) (verdict-grown a b first.guard p xy.grew i1.guard)
      ∙ ap (λ t. and_then (verdict_at a first.guard p) t) (verdict-grown a b second.guard p xy.grew i2.guard))
      ∙ ap (λ t. and_then (and_then (verdict_at a first.guard p) (verdict_at a second.guard p)) t)
      (verdict-grown b c holds' p yz.grew says.inside ∙ bit-verdict b (λ u. test (value a u first.word) (value a u second.word)) holds' p says)
      ∙ by p (f p) (g p) (hf.is p ok head_x) (hg.is p ok head_x);
}
  where
    by : (p : Packet) (m k : Option ℕ) → Is x.words.diagrams p first m → Is x.words.diagrams p second k
        → and_then (and_then (verdict_at x.words.diagrams first.guard p) (verdict_at x.words.diagrams second.guard p))
        (decided (test (value x.words.diagrams (bit_of p) first.word) (value x.words.diagrams (bit_of p) second.word))) ≡ check_both test m k
    by p None k is1 is2 =
        ap (λ t. and_then (and_then t (verdict_at x.words.diagrams second.guard p)) (decided (test (value x.words.diagrams (bit_of p) first.word) (value x.words.diagrams (bit_of p) second.word)))) is1
    by p (Some a) None is1 is2 =
        ap (λ t. and_then (and_then t (verdict_at x.words.diagrams second.guard p)) (decided (test (value x.words.diagrams (bit_of p) first.word) (value x.words.diagrams (bit_of p) second.word)))) is1.0
        ∙ ap (λ t. and_then t (decided (test (value x.words.diagrams (bit_of p) first.word) (value x.words.diagrams (bit_of p) second.word)))) is2
    by p (Some a) (Some b) is1 is2 =
        ap (λ t. and_then (and_then t (verdict_at x.words.diagrams second.guard p)) (decided (test (value x.words.diagrams (bit_of p) first.word) (value x.words.diagrams (bit_of p) second.word)))) is1.0
        ∙ ap (λ t. and_then t (decided (test (value x.words.diagrams (bit_of p) first.word) (value x.words.diagrams (bit_of p) second.word)))) is2.0
        ∙ ap (λ n. decided (test n (value x.words.diagrams (bit_of p) second.word))) is1.1
        ∙ ap (λ n. decided (test a n)) is2.1

-- ---- Values

pub stands-as : (x : Symbols) (f g : Packet → Option ℕ) (s : Symbol) → ((p : Packet) → f p ≡ g p) → StandsFor x f s → StandsFor x g s
stands-as x f g s same h = record {
  inside = h.inside;
  is = λ p ok head. subst (Is x.words.diagrams p s) (same p) (h.is p ok head);
}

pub stands-grown : (x y : Symbols) (f : Packet → Option ℕ) (s : Symbol) → Extends x y → StandsFor x f s → StandsFor y f s
stands-grown x y f s g h = record {
  inside = symbol_grown x.words.diagrams y.words.diagrams s g.grew h.inside;
  is = λ p ok head. is-grown x.words.diagrams y.words.diagrams p s (f p) g.grew h.inside (h.is p ok (head-back x y p g head));
}

pub number-stands : (y z : Symbols) (n : ℕ) (s : Symbol) → Extends y z → HasValue y.words.diagrams (λ v. n) s.word → Says z.words.diagrams (λ v. true) s.guard
    → StandsFor z (λ p. Some n) s
number-stands y z n s g word guard = record {
  inside = record { guard = guard.inside; word = word_grown y.words.diagrams z.words.diagrams s.word g.grew word.inside };
  is = λ p ok head.
      (bit-verdict z.words.diagrams (λ v. true) s.guard p guard, value-grown y.words.diagrams z.words.diagrams s.word g.grew word.inside (bit_of p) ∙ word.is (bit_of p));
}

pub wire-stands : (y z : Symbols) (s : Symbol) → Extends y z → IsField y 31 32 s.word → Says z.words.diagrams (λ v. true) s.guard → StandsFor z (λ p. Some p.wire) s
wire-stands y z s g word guard = record {
  inside = record { guard = guard.inside; word = word_grown y.words.diagrams z.words.diagrams s.word g.grew word.inside };
  is = λ p ok head. (
    bit-verdict z.words.diagrams (λ v. true) s.guard p guard,
    value-grown y.words.diagrams z.words.diagrams s.word g.grew word.inside (bit_of p) ∙ word.is p ok (head-back y z p g head) (omega arith) ∙ wire-number p ok,
  );
}

-- where an index after the IPv4 header lies, by the header's length
pub header-stands : (x y z u w : Symbols) (words : ℕ) (index s : Symbol) (long : Word) (first : ℕ) → Extends x y → Extends y z → Extends z u → Extends u w
    → x.header ≡ Some words → IsSymbol x.words.diagrams index → HasValue y.words.diagrams (λ v. 4 * words) long
    → Calculates y.words.diagrams z.words.diagrams codes.Add index.word long s.word → Gives u.words.diagrams (λ v. Final 15 true) first
    → Gives w.words.diagrams (λ v. joined And (answer u.words.diagrams v index.guard) (answer u.words.diagrams v first)) s.guard
    → (f : Packet → Option ℕ) → StandsFor x f index → StandsFor w (λ p. option_and_then (index_behind p) (f p)) s
header-stands x y z u w words index s long first xy yz zu uw is inside length' sum enough guard f h = record {
  inside = record { guard = guard.inside; word = word_grown z.words.diagrams w.words.diagrams s.word zw sum.inside };
  is = λ p ok head.
      let v = bit_of p in
      let head_x = head-back x y p xy (head-back y z p yz (head-back z u p zu (head-back u w p uw head))) in
      let said = both-says u.words.diagrams w.words.diagrams index.guard first s.guard p guard
      ∙ ap (λ t. and_then t (verdict_at u.words.diagrams first p)) (verdict-grown x.words.diagrams u.words.diagrams index.guard p xu inside.guard)
      ∙ ap (λ a. and_then (verdict_at x.words.diagrams index.guard p) (verdict_of (length p.captured) a)) (enough.says v) in
      by p (subst (λ o. HasHeader o p) is head_x) said
      (value-grown z.words.diagrams w.words.diagrams s.word zw sum.inside v ∙ sum.is v
      ∙ ap (λ n. (n + value y.words.diagrams v long) % 2 ^ 32) (value-grown x.words.diagrams y.words.diagrams index.word xy.grew inside.word v)
      ∙ ap (λ n. (value x.words.diagrams v index.word + n) % 2 ^ 32) (length'.is v))
      (f p) (h.is p ok head_x);
}
  where
    zw : Grew z.words.diagrams w.words.diagrams
    zw = grown_more z.words.diagrams u.words.diagrams w.words.diagrams zu.grew uw.grew

    xu : Grew x.words.diagrams u.words.diagrams
    xu = grown_more x.words.diagrams z.words.diagrams u.words.diagrams (grown_more x.words.diagrams y.words.diagrams z.words.diagrams xy.grew yz.grew) zu.grew

    by : (p : Packet) → HasHeader (Some words) p
        → verdict_at w.words.diagrams s.guard p ≡ and_then (verdict_at x.words.diagrams index.guard p) (verdict_of (length p.captured) (Final 15 true))
        → value w.words.diagrams (bit_of p) s.word ≡ (value x.words.diagrams (bit_of p) index.word + 4 * words) % 2 ^ 32
        → (m : Option ℕ) → Is x.words.diagrams p index m → Is w.words.diagrams p s (option_and_then (index_behind p) m)
    by p head said word None is' = said ∙ ap (λ t. and_then t (verdict_of (length p.captured) (Final 15 true))) is'
    by p head said word (Some i) is' =
        let c = length p.captured in
        let said' = said ∙ ap (λ t. and_then t (verdict_of c (Final 15 true))) is'.0 in
        elim (cases_lt c 15) [
          | inl past ↦
              subst (λ b. Is w.words.diagrams p s (option_and_then (λ b. Some ((i + 4 * bit_and b 15) % 2 ^ 32)) b)) (sym (numbers.number-none p.captured 14 1 past))
              (said' ∙ short c 15 true past)
          | inr within ↦
              let b = big_endian (take 1 (drop 14 p.captured)) in
              let here = numbers.number-some p.captured 14 1 within in
              subst (λ b. Is w.words.diagrams p s (option_and_then (λ b. Some ((i + 4 * bit_and b 15) % 2 ^ 32)) b)) (sym here) (
                said' ∙ there c 15 true within,
                word ∙ ap (λ n. (n + 4 * words) % 2 ^ 32) is'.1 ∙ ap (λ n. (i + 4 * n) % 2 ^ 32) (sym (head b here)),
              )
        ]

-- what is read at an index of the frame
pub frame-index : (p : Packet) (n : ℕ) (m : Option ℕ) → option_and_then (λ i. number_at p.captured (0 + i) n) m ≡ option_and_then (in_frame n p) m
frame-index p n None = refl
frame-index p n (Some i) = let e : 0 + i ≡ i = omega arith in ap (λ o. number_at p.captured o n) e

-- what is read at an index after the IPv4 header
pub header-index : (p : Packet) (n : ℕ) (m : Option ℕ)
    → option_and_then (λ i. number_at p.captured (14 + i) n) (option_and_then (index_behind p) m) ≡ option_and_then (behind_header n p) m
header-index p n None = refl
header-index p n (Some i) =
    elim (byte 14 p) as (λ b. option_and_then (λ j. number_at p.captured (14 + j) n) (option_and_then (λ b. Some ((i + 4 * bit_and b 15) % 2 ^ 32)) b)
    ≡ option_and_then (λ b. number_at p.captured (14 + (i + 4 * bit_and b 15) % 2 ^ 32) n) b) [ None ↦ refl | Some b ↦ refl ]

-- what is read of a layer that begins after the Ethernet header
pub network-stands : (x : Symbols) (layer : Layer) (n : ℕ) (f : Packet → Option ℕ) (s : Symbol) → (layer ≡ layers.Ip) ⊎ ((layer ≡ layers.Arp) ⊎ (layer ≡ layers.Rarp))
    → StandsFor x (λ p. option_and_then (λ i. number_at p.captured (14 + i) n) (f p)) s → StandsFor x (λ p. option_and_then (accessed layer n p) (f p)) s
network-stands x layer n f s (inl e) h = subst (λ l. StandsFor x (λ p. option_and_then (accessed l n p) (f p)) s) (sym e) h
network-stands x layer n f s (inr (inl e)) h = subst (λ l. StandsFor x (λ p. option_and_then (accessed l n p) (f p)) s) (sym e) h
network-stands x layer n f s (inr (inr e)) h = subst (λ l. StandsFor x (λ p. option_and_then (accessed l n p) (f p)) s) (sym e) h

-- what is read of a layer that begins after the IPv4 header
pub transport-stands : (x : Symbols) (layer : Layer) (n : ℕ) (f : Packet → Option ℕ) (s : Symbol) → (layer ≡ layers.Tcp) ⊎ ((layer ≡ layers.Udp) ⊎ (layer ≡ layers.Icmp))
    → StandsFor x (λ p. option_and_then (λ i. number_at p.captured (14 + i) n) (option_and_then (index_behind p) (f p))) s
    → StandsFor x (λ p. option_and_then (accessed layer n p) (f p)) s
transport-stands x layer n f s which h = by layer which
    (stands-as x (λ p. option_and_then (λ i. number_at p.captured (14 + i) n) (option_and_then (index_behind p) (f p))) (λ p. option_and_then (behind_header n p) (f p)) s
    (λ p. header-index p n (f p)) h)
  where
    by : (layer : Layer) → (layer ≡ layers.Tcp) ⊎ ((layer ≡ layers.Udp) ⊎ (layer ≡ layers.Icmp)) → StandsFor x (λ p. option_and_then (behind_header n p) (f p)) s
        → StandsFor x (λ p. option_and_then (accessed layer n p) (f p)) s
    by layer (inl e) h = subst (λ l. StandsFor x (λ p. option_and_then (accessed l n p) (f p)) s) (sym e) h
    by layer (inr (inl e)) h = subst (λ l. StandsFor x (λ p. option_and_then (accessed l n p) (f p)) s) (sym e) h
    by layer (inr (inr e)) h = subst (λ l. StandsFor x (λ p. option_and_then (accessed l n p) (f p)) s) (sym e) h

-- ---- Trees

pub symbol_extended : (a b : Symbols) (s : Symbol) → Extends a b → IsSymbol a.words.diagrams s → IsSymbol b.words.diagrams s
symbol_extended a b s g h = symbol_grown a.words.diagrams b.words.diagrams s g.grew h

pub amount-minus : (a b d : Symbols) (whole v : Amount) (x o s : Symbol) → whole ≡ trees.minus v → Extends a b → StandsFor a (value_of v) x → StandsFor b (λ p. Some 0) o
    → ((f g : Packet → Option ℕ) → StandsFor b f o → StandsFor b g x → StandsFor d (λ p. option_and_then (λ a. option_and_then (λ b. calculated codes.Subtract a b) (g p)) (f p)) s)
    → StandsFor d (value_of whole) s
amount-minus a b d whole v x o s is g hx ho made =
    subst (λ t. StandsFor d (value_of t) s) (sym is) (made (λ p. Some 0) (value_of v) ho (stands-grown a b (value_of v) x g hx))

pub amount-binary : (a b d : Symbols) (o : Operator) (whole v w : Amount) (x y s : Symbol) → whole ≡ trees.binary o v w → Extends a b → StandsFor a (value_of v) x → StandsFor b (value_of w) y
    → ((f g : Packet → Option ℕ) → StandsFor b f x → StandsFor b g y
    → StandsFor d (λ p. option_and_then (λ a. option_and_then (λ b. calculated (arithmetic_of o) a b) (g p)) (f p)) s)
    → StandsFor d (value_of whole) s
amount-binary a b d o whole v w x y s is g hx hy made =
    subst (λ t. StandsFor d (value_of t) s) (sym is) (made (value_of v) (value_of w) (stands-grown a b (value_of v) x g hx) hy)

pub amount-accessor : (a d : Symbols) (layer : Layer) (size : Size) (whole v : Amount) (x s : Symbol) → whole ≡ trees.accessor layer v size → StandsFor a (value_of v) x
    → ((f : Packet → Option ℕ) → StandsFor a f x → StandsFor d (λ p. option_and_then (accessed layer (bytes_of size) p) (f p)) s)
    → StandsFor d (value_of whole) s
amount-accessor a d layer size whole v x s is hx made = subst (λ t. StandsFor d (value_of t) s) (sym is) (made (value_of v) hx)
