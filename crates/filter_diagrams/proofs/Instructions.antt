-- What instructions do by the words of a state.
use Rattle.std.proofs.Common.{◌≡◌, ℕ, ◌+◌, ◌*◌, ◌%◌, ◌^◌, ◌<◌, inl, inr, Bool, true, false, List, length, refl, sym, ap, ◌∙◌, arith, subst}
use Rattle.std.specs.Prelude.{if◌then◌else◌, nat_lt, bit_and, Option, Some, None, option_and_then, option_map, IfSome, slice_index}
use Rattle.std.proofs.lemmas.Nat.{and_le_r}
use Rattle.bpfvm.specs.declared.insn.Insn.{Insn}
use Rattle.bpfvm.specs.Codes as codes
use Rattle.bpfvm.specs.Machine.{Registers, Goes, operand, calculated, holds, loaded, number_at, value_in, with_value, with_cell}
use Rattle.filter_tree.specs.declared.tree.Operator.{Operator}
use Rattle.filter_meaning.specs.declared.verdict.Verdict.TheVariants.{Yes, No}
use Rattle.filter_meaning.specs.Meaning.{Packet, arithmetic_of, decided}
use Rattle.filter_bdd.specs.declared.answer.Answer.TheVariants.{Final}
use Rattle.filter_bdd.specs.declared.table.Node.{Node}
use Rattle.filter_bdd.specs.Diagrams.{answer, Gives, Grew}
use Rattle.filter_words.specs.declared.word.Word.{Word}
use Rattle.filter_words.specs.Words.{Says, IsWord, value, HasValue}
use Rattle.filter_words.proofs.Nodes.{word_grown, value-grown}
use Rattle.filter_symbols.specs.declared.symbol.Symbols.{Symbols}
use Rattle.filter_symbols.specs.declared.symbol.Symbol.{Symbol}
use Rattle.filter_symbols.specs.Packets.{bit_of, verdict_of, verdict_at}
use Rattle.filter_symbols.specs.Symbols.{Is, StandsFor, Extends}
use Rattle.filter_symbols.proofs.Guards.{bit-verdict, stands-as, stands-grown}
use Rattle.filter_symbols.proofs.Stands.{there}
use Rattle.filter_diagrams.specs.declared.actions.Action.{Action}
use Rattle.filter_diagrams.specs.declared.actions.Action.TheVariants.{Load, Store, Jump, Branch, ReturnConstant, ReturnAccumulator}
use Rattle.filter_diagrams.specs.declared.actions.Operand.{Operand}
use Rattle.filter_diagrams.specs.declared.actions.Register.{Register}
use Rattle.filter_diagrams.specs.declared.actions.Register.TheVariants as registers
use Rattle.filter_diagrams.specs.declared.actions.LoadSource.{LoadSource}
use Rattle.filter_diagrams.specs.declared.actions.Test.{Test}
use Rattle.filter_diagrams.specs.declared.state.State.{State}
use Rattle.filter_diagrams.specs.declared.steps.Step.{Step}
use Rattle.filter_diagrams.specs.declared.steps.Step.TheVariants as steps
use Rattle.filter_diagrams.specs.Actions.{register_of, operand_of, comparison_of, number_from}
use Rattle.filter_diagrams.specs.States.{cell, word_in, AreWords, IsNumber, IsStateOf, HasWord, HasCell}
use Rattle.filter_diagrams.specs.Walks.{IsOperand, IsLoad, IsInside, IsEffect, IsOn, IsJump, IsStepOf}
use Rattle.filter_diagrams.proofs.States.{words_grown, state-on, with-words, with-state, cell-words, cell-state}

pub word_extended : (a b : Symbols) (w : Word) → Extends a b → IsWord a.words.diagrams w → IsWord b.words.diagrams w
word_extended a b w g h = word_grown a.words.diagrams b.words.diagrams w g.grew h

pub words_extended : (a b : Symbols) (s : State) → Extends a b → AreWords a.words.diagrams s → AreWords b.words.diagrams s
words_extended a b s g h = words_grown a.words.diagrams b.words.diagrams s g.grew h

-- ---- Words of a state

-- a word of a state is a word, and is what its register holds
pub kept-word : (nodes : List Node) (x : Option Word) (w : Word) → x ≡ Some w → IfSome x (IsWord nodes) → IsWord nodes w
kept-word nodes x w is h = subst (λ y. IfSome y (IsWord nodes)) is h

pub kept-number : (nodes : List Node) (p : Packet) (x : Option Word) (w : Word) (n : ℕ) → x ≡ Some w → IsNumber nodes p x n → value nodes (bit_of p) w ≡ n
kept-number nodes p x w n is h = subst (λ y. IsNumber nodes p y n) is h

pub register-word : (nodes : List Node) (s : State) (from : Register) (w : Word) → word_in from s ≡ Some w → AreWords nodes s → IsWord nodes w
register-word nodes s registers.Accumulator w is h = kept-word nodes s.accumulator w is h.accumulator
register-word nodes s registers.Index w is h = kept-word nodes s.index w is h.index

pub register-number : (nodes : List Node) (s : State) (from : Register) (w : Word) (p : Packet) (r : Registers) → word_in from s ≡ Some w → IsStateOf nodes s p r
    → value nodes (bit_of p) w ≡ value_in (register_of from) r
register-number nodes s registers.Accumulator w p r is h = kept-number nodes p s.accumulator w r.accumulator is h.accumulator
register-number nodes s registers.Index w p r is h = kept-number nodes p s.index w r.index is h.index

-- the operand of an instruction
pub operand-constant : (old new : List Node) (s : State) (i : Insn) (w : Word) → HasValue new (λ v. i.k) w → IsOperand old new s codes.Constant i w
operand-constant old new s i w h = record { inside = h.inside; is = λ p r is. h.is (bit_of p) }

pub operand-index : (nodes : List Node) (s : State) (i : Insn) (w : Word) → s.index ≡ Some w → AreWords nodes s → IsOperand nodes nodes s codes.InIndex i w
operand-index nodes s i w is h = record {
  inside = register-word nodes s registers.Index w is h;
  is = λ p r state. register-number nodes s registers.Index w p r is state;
}

-- ---- Symbols

-- a number that every packet has
pub word-stands : (a b : Symbols) (w : Word) (s : Symbol) → Extends a b → IsWord a.words.diagrams w → Says b.words.diagrams (λ v. true) s.guard → s.word ≡ w
    → StandsFor b (λ p. Some (value a.words.diagrams (bit_of p) w)) s
word-stands a b w s g h yes' is = record {
  inside = record { guard = yes'.inside; word = subst (IsWord b.words.diagrams) (sym is) (word_grown a.words.diagrams b.words.diagrams w g.grew h) };
  is = λ p ok head. (
    bit-verdict b.words.diagrams (λ v. true) s.guard p yes',
    ap (value b.words.diagrams (bit_of p)) is ∙ value-grown a.words.diagrams b.words.diagrams w g.grew h (bit_of p),
  );
}

-- what an operator makes of two of them
pub calculated-by : (a b d e : Symbols) (o : Operator) (first second : Word) (left right s : Symbol) → Extends a b → Extends b d → IsWord a.words.diagrams second
    → StandsFor b (λ p. Some (value a.words.diagrams (bit_of p) first)) left → StandsFor d (λ p. Some (value b.words.diagrams (bit_of p) second)) right
    → ((f g : Packet → Option ℕ) → StandsFor d f left → StandsFor d g right
    → StandsFor e (λ p. option_and_then (λ x. option_and_then (λ y. calculated (arithmetic_of o) x y) (g p)) (f p)) s)
    → StandsFor e (λ p. calculated (arithmetic_of o) (value a.words.diagrams (bit_of p) first) (value a.words.diagrams (bit_of p) second)) s
calculated-by a b d e o first second left right s g h word hl hr made =
    made (λ p. Some (value a.words.diagrams (bit_of p) first)) (λ p. Some (value a.words.diagrams (bit_of p) second))
    (stands-grown b d (λ p. Some (value a.words.diagrams (bit_of p) first)) left h hl)
    (stands-as d (λ p. Some (value b.words.diagrams (bit_of p) second)) (λ p. Some (value a.words.diagrams (bit_of p) second)) right
    (λ p. ap Some (value-grown a.words.diagrams b.words.diagrams second g.grew word (bit_of p))) hr)

four-words : (b : ℕ) → calculated codes.Multiply (bit_and b 15) 4 ≡ Some (4 * bit_and b 15)
four-words b = let small = and_le_r b 15 in ap Some (let e : (bit_and b 15 * 4) % 2 ^ 32 ≡ 4 * bit_and b 15 = omega arith in e)

four-bits : (m : Option ℕ) → option_and_then (λ x. option_and_then (λ y. calculated codes.Multiply x y) (Some 4)) (option_and_then (λ x. option_and_then (λ y. calculated codes.And x y) (Some 15)) m)
    ≡ option_map (λ b. 4 * bit_and b 15) m
four-bits None = refl
four-bits (Some b) = four-words b

-- the length of an IPv4 header
pub header-length : (a b d e f : Symbols) (offset : ℕ) (first mask words four s : Symbol) → Extends a b → Extends d e
    → StandsFor a (λ p. number_at p.captured offset 1) first → StandsFor b (λ p. Some 15) mask
    → ((x y : Packet → Option ℕ) → StandsFor b x first → StandsFor b y mask → StandsFor d (λ p. option_and_then (λ m. option_and_then (λ n. calculated codes.And m n) (y p)) (x p)) words)
    → StandsFor e (λ p. Some 4) four
    → ((x y : Packet → Option ℕ) → StandsFor e x words → StandsFor e y four → StandsFor f (λ p. option_and_then (λ m. option_and_then (λ n. calculated codes.Multiply m n) (y p)) (x p)) s)
    → StandsFor f (λ p. option_map (λ b. 4 * bit_and b 15) (number_at p.captured offset 1)) s
header-length a b d e f offset first mask words four s g h hf hm low hn whole =
    let x = λ (p : Packet). number_at p.captured offset 1 in
    let y = λ (p : Packet). option_and_then (λ m. option_and_then (λ n. calculated codes.And m n) (Some 15)) (x p) in
    stands-as f (λ p. option_and_then (λ m. option_and_then (λ n. calculated codes.Multiply m n) (Some 4)) (y p)) (λ p. option_map (λ b. 4 * bit_and b 15) (x p)) s
    (λ p. four-bits (x p))
    (whole y (λ p. Some 4) (stands-grown d e y words h (low x (λ p. Some 15) (stands-grown a b x first g hf) hm)) hn)

-- ---- Loads

-- what a symbol stands for is what an instruction loads
pub load-by : (x y : Symbols) (state : State) (source : LoadSource) (i : Insn) (f : Packet → Option ℕ) (s : Symbol)
    → ((p : Packet) (r : Registers) → IsStateOf x.words.diagrams state p r → f p ≡ number_from source p.captured p.wire i r) → StandsFor y f s
    → IsLoad x y state (number_from source) i s
load-by x y state source i f s same h = record {
  inside = h.inside;
  is = λ p ok head r is. subst (Is y.words.diagrams p s) (same p r is) (h.is p ok head);
}

pub load-as : (x y : Symbols) (state : State) (source other : LoadSource) (i : Insn) (s : Symbol) → source ≡ other → IsLoad x y state (number_from other) i s → IsLoad x y state (number_from source) i s
load-as x y state source other i s is h = subst (λ o. IsLoad x y state (number_from o) i s) (sym is) h

-- ---- Steps

-- the number that is loaded goes into a register
pub load-step : (x y : Symbols) (state next : State) (to : Register) (source : LoadSource) (i : Insn) (s : Symbol) → Extends x y → AreWords x.words.diagrams state
    → IsLoad x y state (number_from source) i s → HasWord state to s.word next → IsStepOf x y state i (Load to source) (steps.On s.guard 0 next)
load-step x y state next to source i s grew words load has = record {
  inside = (load.inside.guard, with-words y.words.diagrams state next to s.word has (words_extended x y state grew words) load.inside.word);
  does = λ p ok head r is. by p r is (number_from source p.captured p.wire i r) (load.is p ok head r is);
}
  where
    by : (p : Packet) (r : Registers) → IsStateOf x.words.diagrams state p r → (m : Option ℕ) → Is y.words.diagrams p s m
        → IsEffect y.words.diagrams i false r p (loaded (register_of to) r m) (steps.On s.guard 0 next)
    by p r is None abort = inr (abort, refl, refl)
    by p r is (Some n) said = inl (
      said.0,
      (
        with_value (register_of to) n r,
        refl,
        with-state y.words.diagrams state next to s.word p r n has (state-on x.words.diagrams y.words.diagrams state p r grew.grew words is) said.1,
      ),
    )

-- the run goes on
on-effect : (nodes : List Node) (i : Insn) (returns : Bool) (r r' : Registers) (p : Packet) (passed : ℕ) (state : State) (s : Step) → IsOn nodes passed state s → IsStateOf nodes state p r'
    → IsEffect nodes i returns r p (Goes passed r') s
on-effect nodes i returns r r' p passed state s on is =
    subst (IsEffect nodes i returns r p (Goes passed r')) (sym on.is) (inl (bit-verdict nodes (λ v. true) on.guard p on.always, (r', refl, is)))

on-inside : (nodes : List Node) (passed : ℕ) (state : State) (s : Step) → IsOn nodes passed state s → AreWords nodes state → IsInside nodes s
on-inside nodes passed state s on words = subst (IsInside nodes) (sym on.is) (on.always.inside, words)

pub store-step : (x y : Symbols) (state stored : State) (from : Register) (w : Word) (i : Insn) (s : Step) → Extends x y → AreWords x.words.diagrams state
    → word_in from state ≡ Some w → HasCell state i.k w stored → IsOn y.words.diagrams 0 stored s → IsStepOf x y state i (Store from) s
store-step x y state stored from w i s grew words is has on =
    let a = x.words.diagrams in
    let b = y.words.diagrams in
    let word = register-word a state from w is words in
    let words_b = words_extended x y state grew words in
    record {
      inside = on-inside b 0 stored s on (cell-words b state stored i.k w has words_b (word_grown a b w grew.grew word));
      does = λ p ok head r h. on-effect b i false r (with_cell i.k (value_in (register_of from) r) r) p 0 stored s on
          (cell-state b state stored i.k w p r (value_in (register_of from) r) has (state-on a b state p r grew.grew words h)
          (value-grown a b w grew.grew word (bit_of p) ∙ register-number a state from w p r is h));
    }

pub jump-step : (x y : Symbols) (state : State) (i : Insn) (s : Step) → Extends x y → AreWords x.words.diagrams state → IsOn y.words.diagrams i.k state s
    → IsStepOf x y state i Jump s
jump-step x y state i s grew words on = record {
  inside = on-inside y.words.diagrams i.k state s on (words_extended x y state grew words);
  does = λ p ok head r h. on-effect y.words.diagrams i false r r p i.k state s on (state-on x.words.diagrams y.words.diagrams state p r grew.grew words h);
}

-- a test of two words
pub branch-step : (w x y z : Symbols) (state : State) (test : Test) (v : Operand) (i : Insn) (first second : Word) (node : ℕ) (s : Step)
    → Extends w x → Extends x y → AreWords w.words.diagrams state → state.accumulator ≡ Some first
    → IsOperand w.words.diagrams x.words.diagrams state (operand_of v) i second
    → Says y.words.diagrams (λ u. holds (comparison_of test) (value x.words.diagrams u first) (value x.words.diagrams u second)) node
    → IsJump y.words.diagrams z.words.diagrams state i node s → IsStepOf w z state i (Branch test v) s
branch-step w x y z state test v i first second node s g h words is operand' said jump = record {
  inside = jump.inside;
  does = λ p ok head r at.
      let a = w.words.diagrams in
      let b = x.words.diagrams in
      let d = y.words.diagrams in
      let u = bit_of p in
      let words_b = words_grown a b state g.grew words in
      let at_b = state-on a b state p r g.grew words at in
      let one = register-number b state registers.Accumulator first p r is at_b in
      let two = operand'.is p r at in
      jump.does p r (holds (comparison_of test) r.accumulator (operand (operand_of v) i r)) (state-on b d state p r h.grew words_b at_b)
      (bit-verdict d (λ u'. holds (comparison_of test) (value b u' first) (value b u' second)) node p said
      ∙ ap (λ n. decided (holds (comparison_of test) n (value b u second))) one
      ∙ ap (λ n. decided (holds (comparison_of test) r.accumulator n)) two);
}

yes-not-no : (b : Bool) → Yes ≡ decided b → b ≡ true
yes-not-no true h = refl
yes-not-no false h = absurd cc

no-not-yes : (b : Bool) → No ≡ decided b → b ≡ false
no-not-yes true h = absurd cc
no-not-yes false h = refl

-- a test that is the same for every packet
known-verdict : (nodes : List Node) (test : ℕ) (says : Bool) (p : Packet) → ((v : ℕ → Bool) → answer nodes v test ≡ Final 0 says) → verdict_at nodes test p ≡ decided says
known-verdict nodes test says p h = ap (verdict_of (length p.captured)) (h (bit_of p)) ∙ there (length p.captured) 0 says (omega arith)

pub jump-yes : (a b : Symbols) (state : State) (i : Insn) (test n : ℕ) (s : Step) → Extends a b → AreWords a.words.diagrams state
    → ((v : ℕ → Bool) → answer a.words.diagrams v test ≡ Final 0 true) → n ≡ i.jt → IsOn b.words.diagrams n state s
    → IsJump a.words.diagrams b.words.diagrams state i test s
jump-yes a b state i test n s grew words h is on = record {
  inside = on-inside b.words.diagrams n state s on (words_extended a b state grew words);
  does = λ p r c at said.
      let t = yes-not-no c (sym (known-verdict a.words.diagrams test true p h) ∙ said) in
      let passed : n ≡ (if c then i.jt else i.jf) = is ∙ sym (ap (λ (k : Bool). if k then i.jt else i.jf) t) in
      subst (λ m. IsEffect b.words.diagrams i false r p (Goes m r) s) passed
      (on-effect b.words.diagrams i false r r p n state s on (state-on a.words.diagrams b.words.diagrams state p r grew.grew words at));
}

pub jump-no : (a b : Symbols) (state : State) (i : Insn) (test n : ℕ) (s : Step) → Extends a b → AreWords a.words.diagrams state
    → ((v : ℕ → Bool) → answer a.words.diagrams v test ≡ Final 0 false) → n ≡ i.jf → IsOn b.words.diagrams n state s
    → IsJump a.words.diagrams b.words.diagrams state i test s
jump-no a b state i test n s grew words h is on = record {
  inside = on-inside b.words.diagrams n state s on (words_extended a b state grew words);
  does = λ p r c at said.
      let t = no-not-yes c (sym (known-verdict a.words.diagrams test false p h) ∙ said) in
      let passed : n ≡ (if c then i.jt else i.jf) = is ∙ sym (ap (λ (k : Bool). if k then i.jt else i.jf) t) in
      subst (λ m. IsEffect b.words.diagrams i false r p (Goes m r) s) passed
      (on-effect b.words.diagrams i false r r p n state s on (state-on a.words.diagrams b.words.diagrams state p r grew.grew words at));
}

pub jump-either : (nodes : List Node) (state : State) (i : Insn) (test : ℕ) → test < length nodes → IsJump nodes nodes state i test (steps.Branch test)
jump-either nodes state i test inside = record { inside = inside; does = λ p r b at said. (b, said, refl) }

-- ---- Ends

pub constant-step : (x y : Symbols) (state : State) (i : Insn) (node : ℕ) → Gives y.words.diagrams (λ v. Final 0 (nat_lt 0 i.k)) node
    → IsStepOf x y state i ReturnConstant (steps.End node)
constant-step x y state i node gives = record {
  inside = gives.inside;
  does = λ p ok head r at. (i.k, refl, bit-verdict y.words.diagrams (λ v. nat_lt 0 i.k) node p gives);
}

pub accumulator-step : (x y : Symbols) (state : State) (i : Insn) (w : Word) (node : ℕ) → state.accumulator ≡ Some w
    → Says y.words.diagrams (λ v. nat_lt 0 (value x.words.diagrams v w)) node → IsStepOf x y state i ReturnAccumulator (steps.End node)
accumulator-step x y state i w node is said = record {
  inside = said.inside;
  does = λ p ok head r at. (
    r.accumulator,
    refl,
    bit-verdict y.words.diagrams (λ v. nat_lt 0 (value x.words.diagrams v w)) node p said
        ∙ ap (λ n. decided (nat_lt 0 n)) (register-number x.words.diagrams state registers.Accumulator w p r is at),
  );
}

-- a node that says whether a word is above 0
pub some-says : (a b d : List Node) (w zero' : Word) (i : ℕ) → Grew a b → IsWord a w → HasValue b (λ v. 0) zero'
    → Says d (λ v. holds codes.Greater (value b v w) (value b v zero')) i → Says d (λ v. nat_lt 0 (value a v w)) i
some-says a b d w z i g word none h = record {
  inside = h.inside;
  says = λ v. h.says v ∙ ap (λ n. Final 0 (nat_lt n (value b v w))) (none.is v) ∙ ap (λ n. Final 0 (nat_lt 0 n)) (value-grown a b w g word v);
}

pub cell-word : (nodes : List Node) (s : State) (k : ℕ) (x : Option Word) (w : Word) → IfSome x (λ u. (k < 16) × (cell s k ≡ Some u)) → x ≡ Some w → AreWords nodes s → IsWord nodes w
cell-word nodes s k x w found is h =
    let here = subst (λ y. IfSome y (λ u. (k < 16) × (cell s k ≡ Some u))) is found in
    kept-word nodes (cell s k) w here.1 (h.memory k here.0)

pub cell-number : (nodes : List Node) (s : State) (k : ℕ) (w : Word) (p : Packet) (r : Registers) (x : Option Word) → IfSome x (λ u. (k < 16) × (cell s k ≡ Some u)) → x ≡ Some w
    → IsStateOf nodes s p r → value nodes (bit_of p) w ≡ slice_index r.memory k
cell-number nodes s k w p r x found is h =
    let here = subst (λ y. IfSome y (λ u. (k < 16) × (cell s k ≡ Some u))) is found in
    kept-number nodes p (cell s k) w (slice_index r.memory k) here.1 (h.memory k here.0)

pub index-first : (k n x : ℕ) → n ≡ x → k + n ≡ x + k
index-first k n x is = omega (arith, is)

-- a step of an action that is known
pub step-as : (x y : Symbols) (state : State) (i : Insn) (a b : Action) (s : Step) → a ≡ b → IsStepOf x y state i b s → IsStepOf x y state i a s
step-as x y state i a b s is h = subst (λ e. IsStepOf x y state i e s) (sym is) h

pub calculated-number : (a b : List Node) (state : State) (o : Operator) (v : Operand) (i : Insn) (first second : Word) (p : Packet) (r : Registers) → Grew a b → AreWords a state
    → state.accumulator ≡ Some first → IsOperand a b state (operand_of v) i second → IsStateOf a state p r
    → calculated (arithmetic_of o) (value b (bit_of p) first) (value b (bit_of p) second) ≡ calculated (arithmetic_of o) r.accumulator (operand (operand_of v) i r)
calculated-number a b state o v i first second p r g words is operand' at =
    ap (λ n. calculated (arithmetic_of o) n (value b (bit_of p) second))
    (value-grown a b first g (register-word a state registers.Accumulator first is words) (bit_of p) ∙ register-number a state registers.Accumulator first p r is at)
    ∙ ap (calculated (arithmetic_of o) r.accumulator) (operand'.is p r at)

pub negated-number : (a b : List Node) (state : State) (number zero' : Word) (p : Packet) (r : Registers) → Grew a b → AreWords a state → state.accumulator ≡ Some number
    → HasValue b (λ v. 0) zero' → IsStateOf a state p r
    → calculated codes.Subtract (value b (bit_of p) zero') (value b (bit_of p) number) ≡ calculated codes.Subtract 0 r.accumulator
negated-number a b state number zero' p r g words is none at =
    ap (λ n. calculated codes.Subtract n (value b (bit_of p) number)) (none.is (bit_of p))
    ∙ ap (calculated codes.Subtract 0)
    (value-grown a b number g (register-word a state registers.Accumulator number is words) (bit_of p) ∙ register-number a state registers.Accumulator number p r is at)

pub operand-as : (old new : List Node) (s : State) (v u : Operand) (i : Insn) (w : Word) → v ≡ u → IsOperand old new s (operand_of u) i w → IsOperand old new s (operand_of v) i w
operand-as old new s v u i w is h = subst (λ o. IsOperand old new s (operand_of o) i w) (sym is) h
