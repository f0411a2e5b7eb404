-- Runs of programs as tests.
use Rattle.std.proofs.Common.{◌≡◌, ℕ, zero, suc, ◌+◌, inl, inr, Bool, true, false, List, [], ◌∷◌, ◌++◌, drop, Option, Some, None, refl, sym, ap, ◌∙◌, arith, subst, nat_lt, option_map, ◌*◌, bit_and, if◌then◌else◌}
use Rattle.std.proofs.lemmas.Option.{get_or_from_slice_get, slice_get_within}
use Rattle.std.proofs.Math.Seq.{drop-drop}
use Rattle.std.specs.List.{slice_get}
use Rattle.bpfvm.specs.declared.insn.Insn.{Insn}
use Rattle.bpfvm.specs.declared.tracing.Executed.{Executed}
use Rattle.bpfvm.specs.Codes.{Register, Accumulator, Index, Operand, Constant, InIndex, Arithmetic, Add, Subtract, Multiply, Divide, Or, And, ShiftLeft, ShiftRight, Modulo, ExclusiveOr, Operation, LoadAbsolute, LoadIndirect, LoadImmediate, LoadMemory, LoadLength, LoadHeaderLength, Store, Calculate, Negate, Jump, Branch, ReturnConstant, ReturnAccumulator, Transfer, operation_of}
use Rattle.bpfvm.specs.Machine.{Registers, Effect, Goes, Ends, effect, effect_if, loaded, calculated, operand, number_at, answer, verdict, initial, beginning, State, Does}
use Rattle.bpfvm.specs.Traces.{Runs}
use Rattle.bpfvm.specs.Validity.{is_return_code}
use Rattle.bpfvm.specs.declared.ending.How.{How}
use Rattle.bpfvm.specs.declared.ending.How.TheVariants.{Returned}
use Rattle.bpfvm.specs.Endings.{how_by, IsEnd}
use Rattle.filter_meaning.specs.declared.verdict.Verdict.{Verdict}
use Rattle.filter_meaning.specs.declared.verdict.Verdict.TheVariants.{Abort}
use Rattle.filter_meaning.specs.Meaning.{Packet, decided, is_yes}
use Rattle.filter_diagrams.specs.Programs.{ended, run_test, program_test, ProgramsSayYes}

-- ---- A run over what is left

-- passing instructions is dropping them
run-passed : (program : List Insn) (passed : ℕ) (r : Registers) (p : Packet) → run_test program passed r p ≡ run_test (drop passed program) 0 r p
unfolding run_test
run-passed [] zero r p = refl
run-passed [] (suc passed) r p = refl
run-passed (i ∷ others) zero r p = refl
run-passed (i ∷ others) (suc passed) r p = run-passed others passed r p

-- a run over what is left, by what its first instruction does
abbrev After : List Insn → Insn → Packet → Effect → Verdict
After others i p (Goes passed r) = run_test others passed r p
After others i p (Ends n) = ended i n

run-cons : (i : Insn) (others : List Insn) (r : Registers) (p : Packet) → run_test (i ∷ others) 0 r p ≡ After others i p (effect p.captured p.wire i r)
unfolding run_test
run-cons i others r p = by_effect (effect p.captured p.wire i r)
  where
    by_effect : (e : Effect) → elim e [ Goes passed r' ↦ run_test others passed r' p | Ends n ↦ ended i n ] ≡ After others i p e
    by_effect (Goes passed r') = refl
    by_effect (Ends n) = refl

run-at : (program : List Insn) (place : ℕ) (i : Insn) (r : Registers) (p : Packet) → slice_get program place ≡ Some i
    → run_test (drop place program) 0 r p ≡ After (drop (suc place) program) i p (effect p.captured p.wire i r)
run-at [] place i r p here = absurd (omega (arith, slice_get_within [] place i here))
run-at (j ∷ others) zero i r p here =
    let same : j ≡ i = get_or_from_slice_get (j ∷ others) 0 i j here in
    subst (λ (i' : Insn). run_test (j ∷ others) 0 r p ≡ After others i' p (effect p.captured p.wire i' r)) same (run-cons j others r p)
run-at (j ∷ others) (suc place) i r p here = run-at others place i r p here

-- where an instruction goes on, so does the run
pub run-goes : (program : List Insn) (place : ℕ) (i : Insn) (r : Registers) (p : Packet) (passed : ℕ) (r' : Registers) → slice_get program place ≡ Some i
    → effect p.captured p.wire i r ≡ Goes passed r' → run_test (drop place program) 0 r p ≡ run_test (drop (place + 1 + passed) program) 0 r' p
run-goes program place i r p passed r' here goes =
    let next : suc place + passed ≡ place + 1 + passed = omega arith in
    run-at program place i r p here
    ∙ ap (After (drop (suc place) program) i p) goes
    ∙ run-passed (drop (suc place) program) passed r' p
    ∙ ap (λ (l : List Insn). run_test l 0 r' p) (drop-drop passed (suc place) program)
    ∙ ap (λ n. run_test (drop n program) 0 r' p) next

-- where it ends, so does the run
pub run-ends : (program : List Insn) (place : ℕ) (i : Insn) (r : Registers) (p : Packet) (n : ℕ) → slice_get program place ≡ Some i
    → effect p.captured p.wire i r ≡ Ends n → run_test (drop place program) 0 r p ≡ ended i n
run-ends program place i r p n here ends =
    run-at program place i r p here ∙ ap (After (drop (suc place) program) i p) ends

-- ---- What a program keeps

loaded-ends : (to : Register) (r : Registers) (value : Option ℕ) (n : ℕ) → loaded to r value ≡ Ends n → n ≡ 0
loaded-ends to r None n ends = cc
loaded-ends to r (Some v) n ends = absurd cc

-- an instruction that is no return ends a run with 0
ends-zero : (o : Option Operation) (packet : List ℕ) (wire : ℕ) (i : Insn) (r : Registers) (n : ℕ) → is_return_code o ≡ false → effect_if o packet wire i r ≡ Ends n → n ≡ 0
ends-zero None packet wire i r n other ends = cc
ends-zero (Some (LoadAbsolute size)) packet wire i r n other ends = loaded-ends Accumulator r (number_at packet i.k size) n ends
ends-zero (Some (LoadIndirect size)) packet wire i r n other ends = loaded-ends Accumulator r (number_at packet (r.index + i.k) size) n ends
ends-zero (Some (LoadImmediate to)) packet wire i r n other ends = absurd cc
ends-zero (Some (LoadMemory to)) packet wire i r n other ends = absurd cc
ends-zero (Some (LoadLength to)) packet wire i r n other ends = absurd cc
ends-zero (Some LoadHeaderLength) packet wire i r n other ends = loaded-ends Index r (option_map (λ byte. 4 * bit_and byte 15) (number_at packet i.k 1)) n ends
ends-zero (Some (Store from)) packet wire i r n other ends = absurd cc
ends-zero (Some (Calculate f v)) packet wire i r n other ends = loaded-ends Accumulator r (calculated f r.accumulator (operand v i r)) n ends
ends-zero (Some Negate) packet wire i r n other ends = absurd cc
ends-zero (Some Jump) packet wire i r n other ends = absurd cc
ends-zero (Some (Branch test v)) packet wire i r n other ends = absurd cc
ends-zero (Some ReturnConstant) packet wire i r n other ends = absurd cc
ends-zero (Some ReturnAccumulator) packet wire i r n other ends = absurd cc
ends-zero (Some (Transfer Index)) packet wire i r n other ends = absurd cc
ends-zero (Some (Transfer Accumulator)) packet wire i r n other ends = absurd cc

yes-decided : (b : Bool) → is_yes (decided b) ≡ b
yes-decided true = refl
yes-decided false = refl

yes-ended : (o : Option Operation) (packet : List ℕ) (wire : ℕ) (i : Insn) (r : Registers) (n : ℕ) → effect_if o packet wire i r ≡ Ends n
    → is_yes (if is_return_code o then decided (nat_lt 0 n) else Abort) ≡ nat_lt 0 n
yes-ended o packet wire i r n ends = by (is_return_code o) refl
  where
    by : (b : Bool) → is_return_code o ≡ b → is_yes (if is_return_code o then decided (nat_lt 0 n) else Abort) ≡ nat_lt 0 n
    by true is = ap (λ t. is_yes (if t then decided (nat_lt 0 n) else Abort)) is ∙ yes-decided (nat_lt 0 n)
    by false is = ap (λ t. is_yes (if t then decided (nat_lt 0 n) else Abort)) is ∙ sym (ap (nat_lt 0) (ends-zero o packet wire i r n is ends))

yes-kept : (insns : List Insn) (passed : ℕ) (r : Registers) (p : Packet) → is_yes (run_test insns passed r p) ≡ nat_lt 0 (answer insns p.captured p.wire passed r)
unfolding run_test answer effect
yes-kept [] passed r p = refl
yes-kept (i ∷ others) (suc passed) r p = yes-kept others passed r p
yes-kept (i ∷ others) zero r p = by_effect (effect p.captured p.wire i r) refl (λ passed r'. yes-kept others passed r' p)
  where
    by_effect : (e : Effect) → effect p.captured p.wire i r ≡ e
        → ((passed : ℕ) (r' : Registers) → is_yes (run_test others passed r' p) ≡ nat_lt 0 (answer others p.captured p.wire passed r'))
        → is_yes (elim e [ Goes passed r' ↦ run_test others passed r' p | Ends n ↦ ended i n ])
        ≡ nat_lt 0 (elim e [ Goes passed r' ↦ answer others p.captured p.wire passed r' | Ends n ↦ n ])
    by_effect (Goes passed r') is later = later passed r'
    by_effect (Ends n) is later = yes-ended (operation_of i.code) p.captured p.wire i r n is

pub programs-say-yes : ProgramsSayYes
unfolding verdict
programs-say-yes insns p = yes-kept insns 0 initial p

-- ---- What ends a run

-- what a run says that ends for this reason
abbrev pub verdict_by : How → Verdict
verdict_by (Returned n) = decided (nat_lt 0 n)
verdict_by other = Abort

calculated-by : (f : Arithmetic) (v : Operand) (n : ℕ) → verdict_by (how_by (Calculate f v) n) ≡ Abort
calculated-by Add Constant n = refl
calculated-by Add InIndex n = refl
calculated-by Subtract Constant n = refl
calculated-by Subtract InIndex n = refl
calculated-by Multiply Constant n = refl
calculated-by Multiply InIndex n = refl
calculated-by Divide Constant n = refl
calculated-by Divide InIndex n = refl
calculated-by Or Constant n = refl
calculated-by Or InIndex n = refl
calculated-by And Constant n = refl
calculated-by And InIndex n = refl
calculated-by ShiftLeft Constant n = refl
calculated-by ShiftLeft InIndex n = refl
calculated-by ShiftRight Constant n = refl
calculated-by ShiftRight InIndex n = refl
calculated-by Modulo Constant n = refl
calculated-by Modulo InIndex n = refl
calculated-by ExclusiveOr Constant n = refl
calculated-by ExclusiveOr InIndex n = refl

said-by : (o : Operation) (n : ℕ) → verdict_by (how_by o n) ≡ (if is_return_code (Some o) then decided (nat_lt 0 n) else Abort)
said-by (LoadAbsolute size) n = refl
said-by (LoadIndirect size) n = refl
said-by (LoadImmediate to) n = refl
said-by (LoadMemory to) n = refl
said-by (LoadLength to) n = refl
said-by LoadHeaderLength n = refl
said-by (Store from) n = refl
said-by (Calculate f v) n = calculated-by f v n
said-by Negate n = refl
said-by Jump n = refl
said-by (Branch test v) n = refl
said-by ReturnConstant n = refl
said-by ReturnAccumulator n = refl
said-by (Transfer to) n = refl

-- ---- Traces

does-effect : (program : List Insn) (p : Packet) (s : State) (e : Effect) (d : Does program p.captured p.wire s e) → effect p.captured p.wire d.insn s.registers ≡ e
unfolding effect
does-effect program p s e d = ap (λ o. effect_if o p.captured p.wire d.insn s.registers) d.known ∙ sym d.is

not-empty : (before : List Executed) (last : Executed) → before ++ last ∷ [] ≡ [] → ⊥
not-empty [] last h = cc
not-empty (e ∷ before) last h = cc

-- the last instruction that is executed ends the run
pub runs-last : (program : List Insn) (p : Packet) (s : State) (before : List Executed) (last : Executed) (n : ℕ) (i : Insn) → Runs program p.captured p.wire s (before ++ last ∷ []) n
    → slice_get program last.place ≡ Some i → run_test (drop s.place program) 0 s.registers p ≡ ended i n
runs-last program p s [] last n i (inl (does, is, none)) here =
    let place : last.place ≡ s.place = ap (λ (e : Executed). e.place) is in
    let there : slice_get program s.place ≡ Some i = sym (ap (slice_get program) place) ∙ here in
    let found = sym does.here ∙ there in
    let insn : does.insn ≡ i = cc in
    run-ends program s.place i s.registers p n there
    (subst (λ (j : Insn). effect p.captured p.wire j s.registers ≡ Ends n) insn (does-effect program p s (Ends n) does))
runs-last program p s [] last n i (inr (next, step, is, later)) here = absurd later
runs-last program p s (e ∷ before) last n i (inl (does, is, none)) here = absurd (not-empty before last none)
runs-last program p s (e ∷ before) last n i (inr (next, step, is, later)) here =
    run-goes program s.place step.does.insn s.registers p step.passed next.registers step.does.here
    (does-effect program p s (Goes step.passed next.registers) step.does)
    ∙ ap (λ place. run_test (drop place program) 0 next.registers p) (sym step.place)
    ∙ runs-last program p next before last n i later here

-- so its end determines what it says
pub end-says : (program : List Insn) (p : Packet) (place : ℕ) (how : How) → IsEnd program p.captured p.wire place how → verdict_by how ≡ program_test program p
end-says program p place how is =
    ap verdict_by is.why
    ∙ said-by is.operation is.answer
    ∙ sym (ap (λ o. if is_return_code o then decided (nat_lt 0 is.answer) else Abort) is.known)
    ∙ sym (runs-last program p beginning is.ends.before is.ends.last is.answer is.ends.insn is.ends.runs
    (subst (λ (k : ℕ). slice_get program k ≡ Some is.ends.insn) (sym is.ends.at_place) is.ends.here))
