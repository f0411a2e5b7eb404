-- Places after comparisons that fail where the packet has one of some numbers.
use Rattle.std.proofs.Common.{◌≡◌, ◌≢◌, ℕ, zero, suc, ◌+◌, ◌-◌, ◌<◌, ◌==◌, Bool, true, false, List, [], ◌∷◌, length, Option, Some, None, refl, sym, ap, subst, ◌∙◌, arith, ◌⊎◌, inl, inr, if◌then◌else◌}
use Rattle.std.proofs.lemmas.Bool.{cases_eq}
use Rattle.std.proofs.lemmas.Bool.Decides.{nat_tests}
use Rattle.std.specs.List.{slice_get}
use Rattle.bpfvm.specs.declared.insn.Insn.{Insn}
use Rattle.bpfvm.specs.Codes.{Accumulator, Operation, LoadAbsolute, LoadLength, ReturnConstant, Branch, Equal, Constant, operation_of}
use Rattle.bpfvm.specs.Machine.{Registers, Goes, with_value, loaded, effect, effect_of, answer, number_at}
use Rattle.bpfvm.proofs.Turning.{effect-of}
use Rattle.filtergen_trim.specs.Sound.{IsSoundCode}
use Rattle.filtergen_trim.proofs.Reached.{leads-inside}
use Rattle.filtergen_code.specs.declared.code.Exits.{Exits}
use Rattle.filtergen_code.specs.declared.insns.Field.{Field}
use Rattle.filter_meaning.specs.Meaning.{Packet, HasBytes, Test, and_then, check, decided}
use Rattle.filtergen_facts.specs.declared.lists.ValueRange.{ValueRange}
use Rattle.filtergen_code.specs.Insns.{load_insn, plain_insn}
use Rattle.filtergen_code.specs.Emission.{IsPlace, AreExits, HasCells, run_from, Answers, Passes, outcome, field_of, Decides}
use Rattle.filtergen_code.specs.ValueLists.{in_ranges, ChoosesFrom, IgnoresAccumulator, GoesOnAs, FailsTo, Skips}
use Rattle.filtergen_code.proofs.Runs.{after, answer-first, front-place, extends-one, extends-both, load-effect, ending, return-effect}

-- two runs on which an instruction has the same effect go on together
together : (code : List Insn) (k : ℕ) (i : Insn) (p : Packet) (r s : Registers) → slice_get code k ≡ Some i → effect p.captured p.wire i r ≡ effect p.captured p.wire i s
    → answer code p.captured p.wire k r ≡ answer code p.captured p.wire k s
unfolding answer
together [] k i p r s here same = absurd cc
together (j ∷ rest) zero i p r s here same =
    let is : i ≡ j = cc in
    let same' : effect p.captured p.wire j r ≡ effect p.captured p.wire j s = subst (λ (x : Insn). effect p.captured p.wire x r ≡ effect p.captured p.wire x s) is same in
    answer-first j rest p r _ same' ∙ sym (answer-first j rest p s _ refl)
together (j ∷ rest) (suc k) i p r s here same = together rest k i p r s here same

-- an instruction that goes on
going : (code : List Insn) (k : ℕ) (i : Insn) (n : ℕ) (p : Packet) (r : Registers) → slice_get code k ≡ Some i → effect p.captured p.wire i r ≡ Goes n r
    → answer code p.captured p.wire (k + 1 + n) r ≡ answer code p.captured p.wire k r
unfolding answer
going [] k i n p r here is = absurd cc
going (j ∷ rest) zero i n p r here is =
    let same : i ≡ j = cc in
    let one : 0 + 1 + n ≡ suc n = omega arith in
    ap (λ m. answer (j ∷ rest) p.captured p.wire m r) one ∙ sym (answer-first j rest p r (Goes n r) (subst (λ (x : Insn). effect p.captured p.wire x r ≡ Goes n r) same is))
going (j ∷ rest) (suc k) i n p r here is =
    let one : suc k + 1 + n ≡ suc (k + 1 + n) = omega arith in
    ap (λ m. answer (j ∷ rest) p.captured p.wire m r) one ∙ going rest k i n p r here is

loaded-again : (n : ℕ) (r : Registers) (v : Option ℕ) → loaded Accumulator (with_value Accumulator n r) v ≡ loaded Accumulator r v
loaded-again n r None = refl
loaded-again n r (Some m) = refl

-- operations that take nothing from the accumulator, and leave nothing of it
pub data ForgetsIt : Operation → Type 0 where
  loads : (size : ℕ) → ForgetsIt (LoadAbsolute size)
  measures : ForgetsIt (LoadLength Accumulator)
  returns : ForgetsIt ReturnConstant

forgets : (o : Operation) (i : Insn) (p : Packet) (r : Registers) (n : ℕ) → ForgetsIt o → effect_of o p.captured p.wire i (with_value Accumulator n r) ≡ effect_of o p.captured p.wire i r
forgets o i p r n (loads size) = loaded-again n r (number_at p.captured i.k size)
forgets o i p r n measures = loaded-again n r (Some p.wire)
forgets o i p r n returns = refl

pub fresh-there : (at : ℕ) (code : List Insn) (i : Insn) (c : ℕ) (o : Operation) → slice_get code (length code - at) ≡ Some i → i.code ≡ c → operation_of c ≡ Some o → ForgetsIt o → IgnoresAccumulator at code
fresh-there at code i c o here is known kind = record {
  same = λ p r n.
      together code (length code - at) i p (with_value Accumulator n r) r here
      (effect-of p.captured p.wire i _ c o is known ∙ forgets o i p r n kind ∙ sym (effect-of p.captured p.wire i r c o is known));
}

-- a number that is one of some is none that is not
other-number : (choice : ℕ → Bool) (a k : ℕ) → choice a ≡ true → choice k ≡ false → (a == k) ≡ false
other-number choice a k one none = by_cases (cases_eq a k)
  where
    by_cases : (a ≡ k) ⊎ (a ≢ k) → (a == k) ≡ false
    by_cases (inl same) = absurd (let h : true ≡ false = sym one ∙ ap choice same ∙ none in cc)
    by_cases (inr other) = grind (arith, nat_tests)

-- where a comparison of the accumulator with a constant fails
failing-effect : (i : Insn) (p : Packet) (r : Registers) → i.code ≡ 0x15 → (r.accumulator == i.k) ≡ false → effect p.captured p.wire i r ≡ Goes i.jf r
unfolding operation_of
failing-effect i p r is other = effect-of p.captured p.wire i r 0x15 (Branch Equal Constant) is refl ∙ ap (λ b. Goes (if b then i.jt else i.jf) r) other

pub fails-inside : (at : ℕ) (code : List Insn) (i : Insn) → IsSoundCode code → IsPlace code at → slice_get code (length code - at) ≡ Some i → i.code ≡ 0x15 → 1 + i.jf < at
unfolding operation_of
fails-inside at code i sound place here is =
    let inside = leads-inside code (length code - at) i.jf i sound here (omega (arith, place)) (rw is (inr refl)) in
    omega (arith, inside, place.1)

-- one comparison more
pub fails-next : (choice : ℕ → Bool) (place at : ℕ) (code : List Insn) (i : Insn) → 1 + i.jf < at → slice_get code (length code - at) ≡ Some i → i.code ≡ 0x15 → choice i.k ≡ false → FailsTo choice place at code
    → FailsTo choice place (at - (1 + i.jf)) code
fails-next choice place at code i inside here is none before =
    let next : length code - (at - (1 + i.jf)) ≡ length code - at + 1 + i.jf = omega (arith, inside, before.here.1) in
    record {
      here = (omega (arith, inside), omega (arith, before.here.1));
      leads = λ p r one.
          ap (λ n. answer code p.captured p.wire n r) next
          ∙ going code (length code - at) i i.jf p r here (failing-effect i p r is (other-number choice r.accumulator i.k one none))
          ∙ before.leads p r one;
    }

pub fails-on : (choice : ℕ → Bool) (place at further : ℕ) (code : List Insn) → FailsTo choice place at code → GoesOnAs at further code → FailsTo choice place further code
fails-on choice place at further code before next = record { here = next.here; leads = λ p r one. next.leads p r ∙ before.leads p r one }

-- two returns that answer the same
pub same-returns : (place at : ℕ) (code : List Insn) (i : Insn) (n : ℕ) → IsPlace code at → i ≡ plain_insn 6 n → slice_get code (length code - place) ≡ Some i → slice_get code (length code - at) ≡ Some i → GoesOnAs place at code
same-returns place at code i n here is first second = record {
  here = here;
  leads = λ p r.
      ending code (length code - at) (plain_insn 6 n) n p r (second ∙ ap Some is) (return-effect n p r) ∙ sym (ending code (length code - place) (plain_insn 6 n) n p r (first ∙ ap Some is) (return-effect n p r));
}

-- after the load, over the comparisons, to where the accumulator does not matter
pub skips-over : (field : Field) (choice : ℕ → Bool) (place later beyond : ℕ) (code : List Insn) → Passes (load_insn field) place later code → FailsTo choice later beyond code
    → IgnoresAccumulator place code → IgnoresAccumulator beyond code → Skips field choice place beyond code
skips-over field choice place later beyond code passes fails fresh fresh' = record {
  here = fails.here;
  leads = λ p r n is one.
      let r' = with_value Accumulator n r in
      let unchanged : effect p.captured p.wire (load_insn field) r' ≡ Goes 0 r' = load-effect field p r' ∙ ap (loaded Accumulator r') is in
      sym (fresh'.same p r n) ∙ fails.leads p r' one ∙ passes.leads p r' unchanged ∙ fresh.same p r n;
}

-- A number that is one of some, and after it a second test, which goes on beyond comparisons of that number with others.
pub decides-beyond : {k m e f y n beyond : ℕ} {u : Test} (field : Field) (xs : List ValueRange) {exits : Exits} {a b c : List Insn} → AreExits a exits → f ≡ length c
    → Skips field (in_ranges xs) exits.no beyond a → Decides k u (record { yes = exits.yes; no = beyond }) e a b
    → Passes (load_insn field) e y b → Passes (load_insn field) exits.no n b
    → ChoosesFrom m (λ r. in_ranges xs r.accumulator) (record { yes = y; no = n }) f b c
    → Decides (k + (m + 1)) (λ p. and_then (check (in_ranges xs) (field_of field p)) (u p)) exits (suc (length c)) a (load_insn field ∷ c)
decides-beyond {k} {m} {e} {f} {y} {n} {beyond} {u} field xs {exits} {a} {b} {c} are is skip second yes-passed no-passed choice = record {
  extends = extends-both second.extends (extends-both choice.extends (extends-one _ c));
  here = (omega arith, omega arith);
  decides = λ p k' l bytes yes' no'. record {
    always = λ r cells. front-place (load_insn field ∷ c) p r ∙ answer-first _ c p r _ (load-effect field p r) ∙ by_value p k' l r bytes cells yes' no' (field_of field p) refl;
  };
}
  where
    beyond-answers : (p : Packet) (l x : ℕ) → Answers a exits.no p l → field_of field p ≡ Some x → in_ranges xs x ≡ true → Answers a beyond p l
    beyond-answers p l x no' at one = record { always = λ r cells. skip.leads p r x at one ∙ no'.always r cells }

    by_choice : (p : Packet) (k' l x : ℕ) (r : Registers) → HasBytes p → HasCells r → Answers a exits.yes p k' → Answers a exits.no p l → field_of field p ≡ Some x → effect p.captured p.wire (load_insn field) r ≡ Goes 0 r
        → (chosen : Bool) → in_ranges xs x ≡ chosen → (if chosen then run_from b y p r else run_from b n p r) ≡ outcome (and_then (decided chosen) (u p)) k' l
    by_choice p k' l x r bytes cells yes' no' at unchanged true chosen =
        yes-passed.leads p r unchanged ∙ (second.decides p k' l bytes yes' (beyond-answers p l x no' at chosen)).always r cells
    by_choice p k' l x r bytes cells yes' no' at unchanged false chosen =
        no-passed.leads p r unchanged ∙ second.extends.same exits.no p r are.1.1 ∙ no'.always r cells

    by_value : (p : Packet) (k' l : ℕ) (r : Registers) → HasBytes p → HasCells r → Answers a exits.yes p k' → Answers a exits.no p l → (v : Option ℕ) → field_of field p ≡ v
        → after c p (loaded Accumulator r v) ≡ outcome (and_then (check (in_ranges xs) v) (u p)) k' l
    by_value p k' l r bytes cells yes' no' None at = refl
    by_value p k' l r bytes cells yes' no' (Some x) at =
        let r' = with_value Accumulator x r in
        let unchanged : effect p.captured p.wire (load_insn field) r' ≡ Goes 0 r' = load-effect field p r' ∙ ap (loaded Accumulator r') at in
        sym (ap (λ place. run_from c place p r') is ∙ front-place c p r') ∙ choice.chooses p r' ∙ by_choice p k' l x r' bytes cells yes' no' at unchanged (in_ranges xs x) refl
