-- Runs over code that instructions are put in front of.
use Rattle.std.proofs.Common.{◌≡◌, ℕ, zero, suc, ◌+◌, ◌-◌, ◌<◌, ◌≤◌, Bool, true, false, List, [], ◌∷◌, length, Some, refl, sym, ap, subst, ◌∙◌, arith, if◌then◌else◌, bit_and, option_map, ◌*◌, ◌⊎◌, inl, inr, get_or, reverse, ◌&&◌, ◌==◌}
use Rattle.std.proofs.lemmas.Bool.Decides.{nat_tests}
use Rattle.std.specs.List.{slice_get}
use Rattle.std.proofs.lemmas.List.{get_or-reverse, length-reverse}
use Rattle.std.proofs.lemmas.Option.{slice_get-get_or}
use Rattle.bpfvm.specs.declared.insn.Insn.{Insn}
use Rattle.bpfvm.specs.Codes.{Accumulator, Index, operation_of}
use Rattle.bpfvm.specs.Machine.{Registers, Effect, Goes, Ends, loaded, effect, answer, number_at}
use Rattle.filtergen_code.specs.declared.code.Exits.{Exits}
use Rattle.filtergen_code.specs.declared.insns.Jump.{Jump}
use Rattle.filtergen_code.specs.declared.insns.Jump.TheVariants as jumps
use Rattle.filtergen_code.specs.declared.insns.Operand.{Operand}
use Rattle.filtergen_code.specs.declared.insns.Operand.TheVariants as operands
use Rattle.filtergen_code.specs.declared.insns.Field.{Field}
use Rattle.filtergen_code.specs.declared.insns.Field.TheVariants as fields
use Rattle.filter_meaning.specs.Meaning.{Packet}
use Rattle.filtergen_code.specs.Insns.{plain_insn, branch_insn, load_insn}
use Rattle.filtergen_code.specs.Emission.{IsPlace, AreExits, run_from, Answers, Extends, condition, field_of, Passes, GoesOnAt, IsRelay, Chooses}
use Rattle.filtergen_code.specs.ValueLists.{GoesOnAs}

-- a run over code goes on after its first instruction, or ends
abbrev pub after : List Insn → Packet → Effect → ℕ
after rest p (Goes passed r) = answer rest p.captured p.wire passed r
after rest p (Ends n) = n

pub answer-first : (i : Insn) (rest : List Insn) (p : Packet) (r : Registers) (e : Effect) → effect p.captured p.wire i r ≡ e → answer (i ∷ rest) p.captured p.wire 0 r ≡ after rest p e
unfolding answer
answer-first i rest p r e is = by_effect (effect p.captured p.wire i r) ∙ ap (after rest p) is
  where
    by_effect : (e : Effect) → elim e [ Goes passed r' ↦ answer rest p.captured p.wire passed r' | Ends n ↦ n ] ≡ after rest p e
    by_effect (Goes passed r') = refl
    by_effect (Ends n) = refl

pub extends-none : (code : List Insn) → Extends 0 code code
extends-none code = record { longer = omega arith; within = omega arith; same = λ place p r within. refl }

pub extends-one : (i : Insn) (code : List Insn) → Extends 1 code (i ∷ code)
unfolding answer
extends-one i code = record {
  longer = omega arith;
  within = omega arith;
  same = λ place p r within.
      let next : length (i ∷ code) - place ≡ suc (length code - place) = omega arith in
      ap (λ n. answer (i ∷ code) p.captured p.wire n r) next;
}

pub extends-both : {m n : ℕ} {a b c : List Insn} → Extends m a b → Extends n b c → Extends (m + n) a c
extends-both {m} {n} {a} {b} {c} first second = record {
  longer = omega (arith, first.longer, second.longer);
  within = omega (arith, first.within, second.within);
  same = λ place p r within.
      let further : place ≤ length b = omega (arith, first.longer) in
      second.same place p r further ∙ first.same place p r within;
}

pub extends-more : {m : ℕ} (n : ℕ) {a b : List Insn} → m ≤ n → Extends m a b → Extends n a b
extends-more {m} n {a} {b} more first = record { longer = first.longer; within = omega (arith, first.within); same = first.same }

-- places keep their answers
pub answers-kept : {m : ℕ} {a b : List Insn} (place n : ℕ) (p : Packet) → Extends m a b → place ≤ length a → Answers a place p n → Answers b place p n
answers-kept place n p extends within before = record { always = λ r cells. extends.same place p r within ∙ before.always r cells }

-- the front answers as the code's first instruction does
pub front-place : (code : List Insn) (p : Packet) (r : Registers) → run_from code (length code) p r ≡ answer code p.captured p.wire 0 r
front-place code p r = let none : length code - length code ≡ 0 = omega arith in ap (λ n. answer code p.captured p.wire n r) none

-- an instruction that changes nothing may be passed
passing : (code : List Insn) (k : ℕ) (i : Insn) (p : Packet) (r : Registers) → slice_get code k ≡ Some i → effect p.captured p.wire i r ≡ Goes 0 r
    → answer code p.captured p.wire (suc k) r ≡ answer code p.captured p.wire k r
unfolding answer
passing [] k i p r here is = absurd cc
passing (j ∷ rest) zero i p r here is =
    let same : i ≡ j = cc in
    sym (answer-first j rest p r (Goes 0 r) (subst (λ (x : Insn). effect p.captured p.wire x r ≡ Goes 0 r) same is))
passing (j ∷ rest) (suc k) i p r here is = passing rest k i p r here is

pub passes-itself : (i : Insn) (place : ℕ) (code : List Insn) → IsPlace code place → Passes i place place code
passes-itself i place code here = record { here = here; leads = λ p r is. refl }

abbrev pub insn_of : ℕ → ℕ → ℕ → ℕ → Insn
insn_of code jt jf k = record { code = code; jt = jt; jf = jf; k = k }

four-true : (a b c d : Bool) → true ≡ (a && (b && (c && d))) → (a ≡ true) × (b ≡ true) × (c ≡ true) × (d ≡ true)
four-true true true true true is = (refl, refl, refl, refl)
four-true true true true false is = absurd cc
four-true true true false d is = absurd cc
four-true true false c d is = absurd cc
four-true false b c d is = absurd cc

pub equal-true : (m n : ℕ) → (m == n) ≡ true → m ≡ n
equal-true m n is = grind (arith, nat_tests)

-- instructions whose fields are the same are the same
pub same-insn : (i j : Insn) → true ≡ ((i.code == j.code) && ((i.jt == j.jt) && ((i.jf == j.jf) && (i.k == j.k)))) → i ≡ j
same-insn i j is =
    let each = four-true (i.code == j.code) (i.jt == j.jt) (i.jf == j.jf) (i.k == j.k) is in
    ap (λ n. insn_of n i.jt i.jf i.k) (equal-true i.code j.code each.0)
    ∙ ap (λ n. insn_of j.code n i.jf i.k) (equal-true i.jt j.jt each.1)
    ∙ ap (λ n. insn_of j.code j.jt n i.k) (equal-true i.jf j.jf each.2)
    ∙ ap (λ n. insn_of j.code j.jt j.jf n) (equal-true i.k j.k each.3)

-- the code's last instruction comes first in its buffer
pub insn-there : (d : Insn) (place : ℕ) (items : List Insn) → 0 < place → place ≤ length items → slice_get (reverse items) (length (reverse items) - place) ≡ Some (get_or items (place - 1) d)
insn-there d place items some within =
    let code = reverse items in
    let l : length code ≡ length items = length-reverse items in
    let k = length code - place in
    let at : get_or code k d ≡ get_or items (length items - 1 - k) d = get_or-reverse items k d (omega arith) in
    let same : length items - 1 - k ≡ place - 1 = omega arith in
    slice_get-get_or code k d (omega arith) ∙ ap Some (at ∙ ap (λ n. get_or items n d) same)

pub passes-one : (i : Insn) (place : ℕ) (code : List Insn) → 1 < place → place ≤ length code → slice_get code (length code - place) ≡ Some i → Passes i place (place - 1) code
passes-one i place code later' within here =
    let next : length code - (place - 1) ≡ suc (length code - place) = omega arith in
    record {
      here = (omega arith, omega arith);
      leads = λ p r unchanged. ap (λ n. answer code p.captured p.wire n r) next ∙ passing code (length code - place) i p r here unchanged;
    }

pub near-found : (place reach found : ℕ) (code : List Insn) → length code - found ≤ reach → GoesOnAs place found code → IsRelay place reach found code code
near-found place reach found code reached goes = record {
  extends = extends-more 1 (omega arith) (extends-none code);
  here = goes.here;
  reached = reached;
  kept = λ within. refl;
  stands = inl refl;
  leads = goes.leads;
}

pub near-leading : (i : Insn) (place found reach : ℕ) (code : List Insn) → IsPlace code place → reach < length code - found → (length code - place ≤ reach → found ≡ place) → GoesOnAt i place code
    → IsRelay place reach (suc (length code)) code (i ∷ code)
near-leading i place found reach code here far same leading = record {
  extends = extends-one i code;
  here = (omega arith, omega arith);
  reached = omega arith;
  kept = λ within. absurd (omega (arith, same within));
  stands = inr refl;
  leads = λ p r. front-place (i ∷ code) p r ∙ leading.leads p r;
}

pub jump-leads : (place : ℕ) (code : List Insn) (p : Packet) (r : Registers) → answer (plain_insn 5 (length code - place) ∷ code) p.captured p.wire 0 r ≡ run_from code place p r
unfolding effect operation_of
jump-leads place code p r = answer-first _ code p r (Goes (length code - place) r) refl

pub return-effect : (k : ℕ) (p : Packet) (r : Registers) → effect p.captured p.wire (plain_insn 6 k) r ≡ Ends k
unfolding effect operation_of
return-effect k p r = refl

-- a run that reaches a return ends there
pub ending : (code : List Insn) (k : ℕ) (i : Insn) (n : ℕ) (p : Packet) (r : Registers) → slice_get code k ≡ Some i → effect p.captured p.wire i r ≡ Ends n → answer code p.captured p.wire k r ≡ n
unfolding answer
ending [] k i n p r here is = absurd cc
ending (j ∷ rest) zero i n p r here is =
    let same : i ≡ j = cc in
    answer-first j rest p r (Ends n) (subst (λ (x : Insn). effect p.captured p.wire x r ≡ Ends n) same is)
ending (j ∷ rest) (suc k) i n p r here is = ending rest k i n p r here is

-- the return at a place, in front of the code
pub return-leads : (n place : ℕ) (code : List Insn) (p : Packet) (r : Registers) → slice_get code (length code - place) ≡ Some (plain_insn 6 n)
    → answer (plain_insn 6 n ∷ code) p.captured p.wire 0 r ≡ run_from code place p r
return-leads n place code p r here =
    answer-first _ code p r (Ends n) (return-effect n p r) ∙ sym (ending code (length code - place) (plain_insn 6 n) n p r here (return-effect n p r))

pub load-effect : (f : Field) (p : Packet) (r : Registers) → effect p.captured p.wire (load_insn f) r ≡ loaded Accumulator r (field_of f p)
unfolding effect operation_of
load-effect (fields.Byte o) p r = refl
load-effect (fields.Half o) p r = refl
load-effect (fields.Word o) p r = refl
load-effect fields.Length p r = refl

pub mask-effect : (m : ℕ) (p : Packet) (r : Registers) → effect p.captured p.wire (plain_insn 0x54 m) r ≡ loaded Accumulator r (Some (bit_and r.accumulator m))
unfolding effect operation_of
mask-effect m p r = refl

branch-effect : (j : Jump) (o : Operand) (jt jf : ℕ) (p : Packet) (r : Registers) → effect p.captured p.wire (branch_insn j o jt jf) r ≡ Goes (if condition j o r then jt else jf) r
unfolding effect operation_of
branch-effect jumps.Equal (operands.Constant k) jt jf p r = refl
branch-effect jumps.Greater (operands.Constant k) jt jf p r = refl
branch-effect jumps.GreaterOrEqual (operands.Constant k) jt jf p r = refl
branch-effect jumps.AnyBit (operands.Constant k) jt jf p r = refl
branch-effect jumps.Equal operands.Index jt jf p r = refl
branch-effect jumps.Greater operands.Index jt jf p r = refl
branch-effect jumps.GreaterOrEqual operands.Index jt jf p r = refl
branch-effect jumps.AnyBit operands.Index jt jf p r = refl

-- the first exit stays in reach when the second one is brought near
pub reach-kept : (exits : Exits) (reach no' yes' : ℕ) (a b c : List Insn) → IsRelay exits.no reach no' a b → IsRelay exits.yes 255 yes' b c
    → (reach ≡ 254) ⊎ ((reach ≡ 255) × (length a - exits.yes ≤ 255)) → length c - no' ≤ 255
reach-kept exits reach no' yes' a b c first second (inl is) = omega (arith, first.reached, second.extends.within)
reach-kept exits reach no' yes' a b c first second (inr (is, near)) = by_place first.stands
  where
    by_place : (b ≡ a) ⊎ (no' ≡ length b) → length c - no' ≤ 255
    by_place (inl same) =
        let near' : length b - exits.yes ≤ 255 = omega (arith, near, ap length same) in
        omega (arith, first.reached, is, ap length (second.kept near'))
    by_place (inr front) = omega (arith, front, second.extends.within)

-- a choice between two distances is one between two places
choice-of : (b : Bool) (code : List Insn) (p : Packet) (r : Registers) (m n : ℕ) → answer code p.captured p.wire (if b then length code - m else length code - n) r ≡ (if b then run_from code m p r else run_from code n p r)
choice-of true code p r m n = refl
choice-of false code p r m n = refl

pub branch-chooses : (j : Jump) (o : Operand) (exits : Exits) (reach no' yes' : ℕ) (a b c : List Insn) → AreExits a exits → IsRelay exits.no reach no' a b → IsRelay exits.yes 255 yes' b c → Chooses 3 (condition j o) exits a (branch_insn j o (length c - yes') (length c - no') ∷ c)
branch-chooses j o exits reach no' yes' a b c are first second = record {
  extends = extends-both (extends-both first.extends second.extends) (extends-one _ c);
  chooses = λ p r.
      let no_place : run_from c no' p r ≡ run_from a exits.no p r = second.extends.same no' p r first.here.1 ∙ first.leads p r in
      let yes_place : run_from c yes' p r ≡ run_from a exits.yes p r = second.leads p r ∙ first.extends.same exits.yes p r are.0.1 in
      answer-first _ c p r _ (branch-effect j o (length c - yes') (length c - no') p r)
      ∙ choice-of (condition j o r) c p r yes' no'
      ∙ ap (λ m. if condition j o r then m else run_from c no' p r) yes_place
      ∙ ap (λ n. if condition j o r then run_from a exits.yes p r else n) no_place;
}

-- what each of the other instructions does
pub header-effect : (p : Packet) (r : Registers) → effect p.captured p.wire (plain_insn 0xb1 14) r ≡ loaded Index r (option_map (λ b. 4 * bit_and b 15) (number_at p.captured 14 1))
unfolding effect operation_of
header-effect p r = refl

pub length-effect : (k : ℕ) (p : Packet) (r : Registers) → effect p.captured p.wire (plain_insn 0xb1 k) r ≡ loaded Index r (option_map (λ b. 4 * bit_and b 15) (number_at p.captured k 1))
unfolding effect operation_of
length-effect k p r = refl

pub half-effect : (k : ℕ) (p : Packet) (r : Registers) → effect p.captured p.wire (plain_insn 0x48 k) r ≡ loaded Accumulator r (number_at p.captured (r.index + k) 2)
unfolding effect operation_of
half-effect k p r = refl

-- exits stay exits where something is put in front
pub exits-kept : {k : ℕ} (exits : Exits) (a b : List Insn) → AreExits a exits → Extends k a b → AreExits b exits
exits-kept exits a b are extends = ((are.0.0, omega (arith, are.0.1, extends.longer)), (are.1.0, omega (arith, are.1.1, extends.longer)))

-- the same choice in other words
pub chooses-same : {most : ℕ} (f g : Registers → Bool) {exits : Exits} {a b : List Insn} → ((r : Registers) → f r ≡ g r) → Chooses most f exits a b → Chooses most g exits a b
chooses-same f g {exits} {a} {b} same choice = record {
  extends = choice.extends;
  chooses = λ p r. choice.chooses p r ∙ ap (λ c. if c then run_from a exits.yes p r else run_from a exits.no p r) (same r);
}

pub chooses-more : {k : ℕ} (l : ℕ) {f : Registers → Bool} {exits : Exits} {a b : List Insn} → k ≤ l → Chooses k f exits a b → Chooses l f exits a b
chooses-more l more choice = record { extends = extends-more l more choice.extends; chooses = choice.chooses }

-- a choice in front of another one, to which it goes where it holds
pub chooses-both : {k l e : ℕ} (f g : Registers → Bool) {exits : Exits} {a b c : List Insn} → AreExits a exits → e ≡ length b
    → Chooses k g exits a b → Chooses l f (record { yes = e; no = exits.no }) b c → Chooses (k + l) (λ r. if f r then g r else false) exits a c
chooses-both {k} {l} {e} f g {exits} {a} {b} {c} are is second first = record {
  extends = extends-both second.extends first.extends;
  chooses = λ p r.
      first.chooses p r
      ∙ ap (λ x. if f r then x else run_from b exits.no p r) (ap (λ n. run_from b n p r) is ∙ front-place b p r ∙ second.chooses p r)
      ∙ ap (λ x. if f r then (if g r then run_from a exits.yes p r else run_from a exits.no p r) else x) (second.extends.same exits.no p r are.1.1)
      ∙ by_choice (f r) (g r) (run_from a exits.yes p r) (run_from a exits.no p r);
}
  where
    by_choice : (b c : Bool) (m n : ℕ) → (if b then (if c then m else n) else n) ≡ (if (if b then c else false) then m else n)
    by_choice true c m n = refl
    by_choice false c m n = refl

-- and one to which it goes where it does not hold
pub chooses-either : {k l e : ℕ} (f g : Registers → Bool) {exits : Exits} {a b c : List Insn} → AreExits a exits → e ≡ length b
    → Chooses k g exits a b → Chooses l f (record { yes = exits.yes; no = e }) b c → Chooses (k + l) (λ r. if f r then true else g r) exits a c
chooses-either {k} {l} {e} f g {exits} {a} {b} {c} are is second first = record {
  extends = extends-both second.extends first.extends;
  chooses = λ p r.
      first.chooses p r
      ∙ ap (λ x. if f r then run_from b exits.yes p r else x) (ap (λ n. run_from b n p r) is ∙ front-place b p r ∙ second.chooses p r)
      ∙ ap (λ x. if f r then x else (if g r then run_from a exits.yes p r else run_from a exits.no p r)) (second.extends.same exits.yes p r are.0.1)
      ∙ by_choice (f r) (g r) (run_from a exits.yes p r) (run_from a exits.no p r);
}
  where
    by_choice : (b c : Bool) (m n : ℕ) → (if b then m else (if c then m else n)) ≡ (if (if b then true else c) then m else n)
    by_choice true c m n = refl
    by_choice false c m n = refl

-- the opposite choice, to the exits in the other order
pub chooses-not : {most : ℕ} (c : Registers → Bool) {exits : Exits} {old new : List Insn} → Chooses most c (record { yes = exits.no; no = exits.yes }) old new → Chooses most (λ r. if c r then false else true) exits old new
chooses-not c {exits} {old} choice = record { extends = choice.extends; chooses = λ p r. choice.chooses p r ∙ by_choice (c r) _ _ }
  where
    by_choice : (b : Bool) (k l : ℕ) → (if b then k else l) ≡ (if (if b then false else true) then l else k)
    by_choice true k l = refl
    by_choice false k l = refl
