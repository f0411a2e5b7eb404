-- A program without the instructions that nothing reaches answers as before.
use Rattle.std.proofs.Common.{◌≡◌, ℕ, zero, suc, ◌+◌, ◌-◌, ◌<◌, ◌≤◌, ◌⊎◌, inl, inr, ◌≢◌, Bool, true, false, ◌&&◌, if◌then◌else◌, ◌==◌, nat_lt, List, [], ◌∷◌, length, Option, Some, None, refl, sym, ap, subst, ◌∙◌, arith, get_or, take, drop, length-set, ◌++◌, append_assoc, replicate, bit_and, option_map, ◌*◌}
use Rattle.std.proofs.lemmas.Bool.Decides.{nat_tests}
use Rattle.std.proofs.lemmas.Bool.{cases_lt, cases_eq}
use Rattle.std.proofs.lemmas.Option.{slice_get_within, slice_get-get_or}
use Rattle.std.proofs.lemmas.List.{get_or-set_same, get_or-set_other}
use Rattle.std.specs.Prelude.{slice_index}
use Rattle.std.proofs.lemmas.List.{append-nil, drop_all, get_or-take, length-append, length-drop, length-take, take_all}
use Rattle.std.proofs.Math.ListN.{set}
use Rattle.std.proofs.Math.Seq.{drop-cons}
use Rattle.std.specs.List.{slice_get, AllByRecursion}
use Rattle.bpfvm.specs.declared.insn.Insn.{Insn}
use Rattle.bpfvm.specs.declared.fault.Invalid.TheVariants.{JumpOut, Cell, ZeroDivisor}
use Rattle.bpfvm.specs.Codes.{Register, Accumulator, Index, Constant, InIndex, Add, Subtract, Multiply, Divide, Or, And, ShiftLeft, ShiftRight, Modulo, ExclusiveOr, Operation, LoadAbsolute, LoadIndirect, LoadImmediate, LoadMemory, LoadLength, LoadHeaderLength, Store, Calculate, Negate, Jump, Branch, ReturnConstant, ReturnAccumulator, Transfer, codes, operation_in, operation_of}
use Rattle.bpfvm.specs.Machine.{Registers, Effect, Goes, Ends, loaded, holds, operand, number_at, calculated, effect_if, effect, answer, initial, verdict}
use Rattle.bpfvm.specs.Validity.{fault_in, fault_of, is_return_code, is_return, SoundBefore}
use Rattle.filtergen_trim.specs.Sound.{IsSoundCode}
use Rattle.filtergen_trim.specs.declared.unreached.Onward.{Onward}
use Rattle.filtergen_trim.specs.declared.unreached.Onward.TheVariants as onward
use Rattle.filtergen_trim.specs.Reaching.{MayPass, LeadsTo, IsPath, IsAllReached}
use Rattle.filtergen_trim.specs.Trimming.{onward_by, onward_of, MayGo, IsSound, IsMarked, count_marked, shorten_by, shorten_jumps, trimmed, MarksNext, MarksBefore, Marks}
use Rattle.filtergen_trim.proofs.Growing.{fine, unless-true, same-bar, both-inside, sound-grown}
use Rattle.filtergen_trim.proofs.Running.{after, answer-first, equal-true, insn_of}

-- where an instruction may lead, in the words of the definition and in those of the code
pub may-go : (o : Option Operation) (i : Insn) (n : ℕ) → MayPass o i n → MayGo (onward_by o i) n
may-go None i n may = may
may-go (Some ReturnConstant) i n may = may
may-go (Some ReturnAccumulator) i n may = may
may-go (Some Jump) i n may = may
may-go (Some (Branch test v)) i n may = may
may-go (Some other) i n may = may

pub go-may : (o : Option Operation) (i : Insn) (n : ℕ) → MayGo (onward_by o i) n → MayPass o i n
go-may None i n may = may
go-may (Some ReturnConstant) i n may = may
go-may (Some ReturnAccumulator) i n may = may
go-may (Some Jump) i n may = may
go-may (Some (Branch test v)) i n may = may
go-may (Some other) i n may = may

-- a load goes on at the next instruction
loaded-next : (to : Register) (r r' : Registers) (v : Option ℕ) (n : ℕ) → loaded to r v ≡ Goes n r' → n ≡ 0
loaded-next to r r' None n is = absurd cc
loaded-next to r r' (Some x) n is = cc

either-of : (b : Bool) (j k n : ℕ) (r r' : Registers) → Goes (if b then j else k) r ≡ Goes n r' → (n ≡ j) ⊎ (n ≡ k)
either-of true j k n r r' is = inl cc
either-of false j k n r r' is = inr cc

-- a run goes on only where the instruction may lead
pub goes-may : (o : Option Operation) (packet : List ℕ) (wire : ℕ) (i : Insn) (r r' : Registers) (n : ℕ) → effect_if o packet wire i r ≡ Goes n r' → MayPass o i n
goes-may None packet wire i r r' n is = absurd cc
goes-may (Some (LoadAbsolute size)) packet wire i r r' n is = loaded-next Accumulator r r' (number_at packet i.k size) n is
goes-may (Some (LoadIndirect size)) packet wire i r r' n is = loaded-next Accumulator r r' (number_at packet (r.index + i.k) size) n is
goes-may (Some (LoadImmediate to)) packet wire i r r' n is = loaded-next to r r' (Some i.k) n is
goes-may (Some (LoadMemory to)) packet wire i r r' n is = loaded-next to r r' (Some (slice_index r.memory i.k)) n is
goes-may (Some (LoadLength to)) packet wire i r r' n is = loaded-next to r r' (Some wire) n is
goes-may (Some LoadHeaderLength) packet wire i r r' n is = loaded-next Index r r' (option_map (λ byte. 4 * bit_and byte 15) (number_at packet i.k 1)) n is
goes-may (Some (Store from)) packet wire i r r' n is = cc
goes-may (Some (Calculate f v)) packet wire i r r' n is = loaded-next Accumulator r r' (calculated f r.accumulator (operand v i r)) n is
goes-may (Some Negate) packet wire i r r' n is = loaded-next Accumulator r r' (calculated Subtract 0 r.accumulator) n is
goes-may (Some Jump) packet wire i r r' n is = cc
goes-may (Some (Branch test v)) packet wire i r r' n is = either-of (holds test r.accumulator (operand v i r)) i.jt i.jf n r r' is
goes-may (Some ReturnConstant) packet wire i r r' n is = absurd cc
goes-may (Some ReturnAccumulator) packet wire i r r' n is = absurd cc
goes-may (Some (Transfer Index)) packet wire i r r' n is = loaded-next Index r r' (Some r.accumulator) n is
goes-may (Some (Transfer Accumulator)) packet wire i r r' n is = loaded-next Accumulator r r' (Some r.index) n is

-- an effect that passes only what is marked
abbrev pub shorter : List Bool → Effect → Effect
shorter marks (Goes n r) = Goes (count_marked n marks) r
shorter marks (Ends n) = Ends n

loaded-shorter : (marks : List Bool) (to : Register) (r : Registers) (v : Option ℕ) → loaded to r v ≡ shorter marks (loaded to r v)
loaded-shorter marks to r None = refl
loaded-shorter marks to r (Some x) = refl

choice-shorter : (marks : List Bool) (b : Bool) (j k : ℕ) (r : Registers) → Goes (if b then count_marked j marks else count_marked k marks) r ≡ shorter marks (Goes (if b then j else k) r)
choice-shorter marks true j k r = refl
choice-shorter marks false j k r = refl

shorten_jumps-effect-by : (marks : List Bool) (o : Option Operation) (packet : List ℕ) (wire : ℕ) (i : Insn) (r : Registers) → effect_if o packet wire (shorten_by (onward_by o i) marks i) r ≡ shorter marks (effect_if o packet wire i r)
shorten_jumps-effect-by marks None packet wire i r = refl
shorten_jumps-effect-by marks (Some (LoadAbsolute size)) packet wire i r = loaded-shorter marks Accumulator r (number_at packet i.k size)
shorten_jumps-effect-by marks (Some (LoadIndirect size)) packet wire i r = loaded-shorter marks Accumulator r (number_at packet (r.index + i.k) size)
shorten_jumps-effect-by marks (Some (LoadImmediate to)) packet wire i r = loaded-shorter marks to r (Some i.k)
shorten_jumps-effect-by marks (Some (LoadMemory to)) packet wire i r = loaded-shorter marks to r (Some (slice_index r.memory i.k))
shorten_jumps-effect-by marks (Some (LoadLength to)) packet wire i r = loaded-shorter marks to r (Some wire)
shorten_jumps-effect-by marks (Some LoadHeaderLength) packet wire i r = loaded-shorter marks Index r (option_map (λ byte. 4 * bit_and byte 15) (number_at packet i.k 1))
shorten_jumps-effect-by marks (Some (Store from)) packet wire i r = refl
shorten_jumps-effect-by marks (Some (Calculate f v)) packet wire i r = loaded-shorter marks Accumulator r (calculated f r.accumulator (operand v i r))
shorten_jumps-effect-by marks (Some Negate) packet wire i r = loaded-shorter marks Accumulator r (calculated Subtract 0 r.accumulator)
shorten_jumps-effect-by marks (Some Jump) packet wire i r = refl
shorten_jumps-effect-by marks (Some (Branch test Constant)) packet wire i r = choice-shorter marks (holds test r.accumulator i.k) i.jt i.jf r
shorten_jumps-effect-by marks (Some (Branch test InIndex)) packet wire i r = choice-shorter marks (holds test r.accumulator r.index) i.jt i.jf r
shorten_jumps-effect-by marks (Some ReturnConstant) packet wire i r = refl
shorten_jumps-effect-by marks (Some ReturnAccumulator) packet wire i r = refl
shorten_jumps-effect-by marks (Some (Transfer Index)) packet wire i r = loaded-shorter marks Index r (Some r.accumulator)
shorten_jumps-effect-by marks (Some (Transfer Accumulator)) packet wire i r = loaded-shorter marks Accumulator r (Some r.index)

code-kept : (next : Onward) (marks : List Bool) (i : Insn) → (shorten_by next marks i).code ≡ i.code
code-kept onward.Nowhere marks i = refl
code-kept onward.Next marks i = refl
code-kept (onward.Jump k) marks i = refl
code-kept (onward.Either jt jf) marks i = refl

shorten_jumps-code : (marks : List Bool) (i : Insn) → operation_of (shorten_jumps marks i).code ≡ operation_of i.code
shorten_jumps-code marks i = ap operation_of (code-kept (onward_of i) marks i)

shorten_jumps-effect : (marks : List Bool) (packet : List ℕ) (wire : ℕ) (i : Insn) (r : Registers) → effect packet wire (shorten_jumps marks i) r ≡ shorter marks (effect packet wire i r)
unfolding effect
shorten_jumps-effect marks packet wire i r =
    ap (λ o. effect_if o packet wire (shorten_jumps marks i) r) (shorten_jumps-code marks i)
    ∙ shorten_jumps-effect-by marks (operation_of i.code) packet wire i r

-- what a marked instruction leads to is marked
abbrev pub IsClosed : List Insn → List Bool → Type 0
IsClosed program marks = (k n : ℕ) (i : Insn) → slice_get program k ≡ Some i → IsMarked marks k → MayPass (operation_of i.code) i n → IsMarked marks (k + 1 + n)

abbrev pub IsInside : List Insn → List Bool → Type 0
IsInside program marks = (k : ℕ) → IsMarked marks k → k < length program

closed-later : (mark : Bool) (marks : List Bool) (i : Insn) (others : List Insn) → IsClosed (i ∷ others) (mark ∷ marks) → IsClosed others marks
closed-later mark marks i others closed = λ k n j here is may.
    let at : suc k + 1 + n ≡ suc (k + 1 + n) = omega arith in
    subst (λ l. IsMarked (mark ∷ marks) l) at (closed (suc k) n j here is may)

closed-here : (marks : List Bool) (i : Insn) (others : List Insn) (n : ℕ) → IsClosed (i ∷ others) (true ∷ marks) → MayPass (operation_of i.code) i n → IsMarked marks n
closed-here marks i others n closed may =
    let at : 0 + 1 + n ≡ suc n = omega arith in
    subst (λ l. IsMarked (true ∷ marks) l) at (closed 0 n i refl refl may)

inside-later : (mark : Bool) (marks : List Bool) (i : Insn) (others : List Insn) → IsInside (i ∷ others) (mark ∷ marks) → IsInside others marks
inside-later mark marks i others inside = λ k is. let below : suc k < suc (length others) = inside (suc k) is in omega arith

-- the run from a marked instruction on
answers-first : (marks : List Bool) (i : Insn) (others : List Insn) (packet : List ℕ) (wire : ℕ) (r : Registers)
    → ((n : ℕ) → MayPass (operation_of i.code) i n → IsMarked marks n)
    → ((n : ℕ) (r' : Registers) → IsMarked marks n → answer (trimmed marks others) packet wire (count_marked n marks) r' ≡ answer others packet wire n r')
    → answer (shorten_jumps marks i ∷ trimmed marks others) packet wire 0 r ≡ answer (i ∷ others) packet wire 0 r
unfolding effect
answers-first marks i others packet wire r closed later =
    answer-first (shorten_jumps marks i) (trimmed marks others) packet wire r _ (shorten_jumps-effect marks packet wire i r)
    ∙ by_effect (effect packet wire i r) (λ n r' is. goes-may (operation_of i.code) packet wire i r r' n is)
    ∙ sym (answer-first i others packet wire r _ refl)
  where
    by_effect : (e : Effect) → ((n : ℕ) (r' : Registers) → e ≡ Goes n r' → MayPass (operation_of i.code) i n) → after (trimmed marks others) packet wire (shorter marks e) ≡ after others packet wire e
    by_effect (Goes n r') may = later n r' (closed n (may n r' refl))
    by_effect (Ends n) may = refl

pub answers-trimmed : (marks : List Bool) (program : List Insn) (passed : ℕ) (packet : List ℕ) (wire : ℕ) (r : Registers) → IsClosed program marks → IsMarked marks passed
    → answer (trimmed marks program) packet wire (count_marked passed marks) r ≡ answer program packet wire passed r
unfolding answer
answers-trimmed [] program passed packet wire r closed here = absurd cc
answers-trimmed (mark ∷ marks) [] passed packet wire r closed here = refl
answers-trimmed (true ∷ marks) (i ∷ others) zero packet wire r closed here =
    answers-first marks i others packet wire r (λ n may. closed-here marks i others n closed may)
    (λ n r' is. answers-trimmed marks others n packet wire r' (closed-later true marks i others closed) is)
answers-trimmed (false ∷ marks) (i ∷ others) zero packet wire r closed here = absurd cc
answers-trimmed (true ∷ marks) (i ∷ others) (suc passed) packet wire r closed here = answers-trimmed marks others passed packet wire r (closed-later true marks i others closed) here
answers-trimmed (false ∷ marks) (i ∷ others) (suc passed) packet wire r closed here = answers-trimmed marks others passed packet wire r (closed-later false marks i others closed) here

-- a marked place is inside of what is left
count_marked-inside : (marks : List Bool) (program : List Insn) (n : ℕ) → IsMarked marks n → n < length program → count_marked n marks < length (trimmed marks program)
count_marked-inside [] program n is within = absurd cc
count_marked-inside (mark ∷ marks) [] n is within = absurd (omega arith)
count_marked-inside (true ∷ marks) (i ∷ others) zero is within = omega arith
count_marked-inside (false ∷ marks) (i ∷ others) zero is within = absurd cc
count_marked-inside (true ∷ marks) (i ∷ others) (suc n) is within = omega (arith, count_marked-inside marks others n is (omega arith))
count_marked-inside (false ∷ marks) (i ∷ others) (suc n) is within = count_marked-inside marks others n is (omega arith)

pub trimmed-within : (marks : List Bool) (program : List Insn) → length (trimmed marks program) ≤ length program
trimmed-within [] program = omega arith
trimmed-within (mark ∷ marks) [] = omega arith
trimmed-within (true ∷ marks) (i ∷ others) = omega (arith, trimmed-within marks others)
trimmed-within (false ∷ marks) (i ∷ others) = omega (arith, trimmed-within marks others)

-- an instruction that was sound is so where all that it may pass is there
shorten_jumps-fault : (marks : List Bool) (o : Option Operation) (i : Insn) (size place rest : ℕ) → fault_in o size place i ≡ None → ((n : ℕ) → MayPass o i n → count_marked n marks < rest)
    → fault_in o (rest + 1) 0 (shorten_by (onward_by o i) marks i) ≡ None
shorten_jumps-fault marks None i size place rest none inside = absurd cc
shorten_jumps-fault marks (Some Jump) i size place rest none inside =
    let below = inside i.k refl in
    let test : nat_lt (0 + 1 + count_marked i.k marks) (rest + 1) ≡ true = grind (arith, nat_tests) in
    unless-true _ (JumpOut 0) test
shorten_jumps-fault marks (Some (Branch test v)) i size place rest none inside =
    unless-true _ (JumpOut 0) (both-inside (count_marked i.jt marks) (count_marked i.jf marks) rest (inside i.jt (inl refl)) (inside i.jf (inr refl)))
shorten_jumps-fault marks (Some (LoadMemory to)) i size place rest none inside = same-bar _ (Cell place) (Cell 0) none
shorten_jumps-fault marks (Some (Store from)) i size place rest none inside = same-bar _ (Cell place) (Cell 0) none
shorten_jumps-fault marks (Some (Calculate Divide Constant)) i size place rest none inside = same-bar _ (ZeroDivisor place) (ZeroDivisor 0) none
shorten_jumps-fault marks (Some (Calculate Divide InIndex)) i size place rest none inside = refl
shorten_jumps-fault marks (Some (Calculate Modulo Constant)) i size place rest none inside = same-bar _ (ZeroDivisor place) (ZeroDivisor 0) none
shorten_jumps-fault marks (Some (Calculate Modulo InIndex)) i size place rest none inside = refl
shorten_jumps-fault marks (Some (Calculate Add v)) i size place rest none inside = refl
shorten_jumps-fault marks (Some (Calculate Subtract v)) i size place rest none inside = refl
shorten_jumps-fault marks (Some (Calculate Multiply v)) i size place rest none inside = refl
shorten_jumps-fault marks (Some (Calculate Or v)) i size place rest none inside = refl
shorten_jumps-fault marks (Some (Calculate And v)) i size place rest none inside = refl
shorten_jumps-fault marks (Some (Calculate ShiftLeft v)) i size place rest none inside = refl
shorten_jumps-fault marks (Some (Calculate ShiftRight v)) i size place rest none inside = refl
shorten_jumps-fault marks (Some (Calculate ExclusiveOr v)) i size place rest none inside = refl
shorten_jumps-fault marks (Some other) i size place rest none inside = refl

shorten_jumps-sound : (marks : List Bool) (i : Insn) (rest : ℕ) → IsSound i → ((n : ℕ) → MayPass (operation_of i.code) i n → count_marked n marks < rest) → fault_of (rest + 1) 0 (shorten_jumps marks i) ≡ None
unfolding fault_of
shorten_jumps-sound marks i rest (size, place, none) inside =
    ap (λ o. fault_in o (rest + 1) 0 (shorten_jumps marks i)) (shorten_jumps-code marks i)
    ∙ shorten_jumps-fault marks (operation_of i.code) i size place rest none inside

-- a sound instruction is a return, or leads somewhere
returns-or-goes : (o : Option Operation) (i : Insn) (size place : ℕ) → fault_in o size place i ≡ None → (is_return_code o ≡ true) ⊎ ((n : ℕ) × MayPass o i n)
returns-or-goes None i size place none = absurd cc
returns-or-goes (Some ReturnConstant) i size place none = inl refl
returns-or-goes (Some ReturnAccumulator) i size place none = inl refl
returns-or-goes (Some Jump) i size place none = inr (i.k, refl)
returns-or-goes (Some (Branch test v)) i size place none = inr (i.jt, inl refl)
returns-or-goes (Some other) i size place none = inr (0, refl)

single-sound : (i : Insn) → fault_of 1 0 i ≡ None → is_return i ≡ true → IsSoundCode (i ∷ [])
single-sound i none returns = record { some = omega arith; sound = each; returns = (i, refl, returns) }
  where
    each : SoundBefore (i ∷ []) 1
    each zero j within here = let same : i ≡ j = cc in subst (λ (x : Insn). fault_of 1 0 x ≡ None) same none
    each (suc k) j within here = absurd (omega arith)

-- the last instruction that is left is a return
last-returns : (marks : List Bool) (i : Insn) → IsSound i → ((n : ℕ) → MayPass (operation_of i.code) i n → count_marked n marks < 0) → is_return (shorten_jumps marks i) ≡ true
unfolding fault_of is_return
last-returns marks i (size, place, none) inside = ap is_return_code (shorten_jumps-code marks i) ∙ by_next (returns-or-goes (operation_of i.code) i size place none)
  where
    by_next : (is_return_code (operation_of i.code) ≡ true) ⊎ ((n : ℕ) × MayPass (operation_of i.code) i n) → is_return_code (operation_of i.code) ≡ true
    by_next (inl is) = is
    by_next (inr (n, may)) = let below = inside n may in absurd (omega arith)

sound-first : (marks : List Bool) (i : Insn) (rest : List Insn) → IsSound i → ((n : ℕ) → MayPass (operation_of i.code) i n → count_marked n marks < length rest)
    → (rest ≡ []) ⊎ IsSoundCode rest → IsSoundCode (shorten_jumps marks i ∷ rest)
sound-first marks i [] sound inside code = single-sound (shorten_jumps marks i) (shorten_jumps-sound marks i 0 sound inside) (last-returns marks i sound inside)
sound-first marks i (j ∷ rest) sound inside (inl none) = absurd cc
sound-first marks i (j ∷ rest) sound inside (inr code) = sound-grown (shorten_jumps marks i) (j ∷ rest) code (shorten_jumps-sound marks i (length (j ∷ rest)) sound inside)

pub sound-trimmed : (marks : List Bool) (program : List Insn) → ((k : ℕ) (i : Insn) → slice_get program k ≡ Some i → IsSound i) → IsClosed program marks → IsInside program marks
    → (trimmed marks program ≡ []) ⊎ IsSoundCode (trimmed marks program)
sound-trimmed [] program sound closed inside = inl refl
sound-trimmed (mark ∷ marks) [] sound closed inside = inl refl
sound-trimmed (true ∷ marks) (i ∷ others) sound closed inside =
    let inside' = inside-later true marks i others inside in
    inr (sound-first marks i (trimmed marks others) (sound 0 i refl)
    (λ n may. let is = closed-here marks i others n closed may in count_marked-inside marks others n is (inside' n is))
    (sound-trimmed marks others (λ k j here. sound (suc k) j here) (closed-later true marks i others closed) inside'))
sound-trimmed (false ∷ marks) (i ∷ others) sound closed inside =
    sound-trimmed marks others (λ k j here. sound (suc k) j here) (closed-later false marks i others closed) (inside-later false marks i others inside)

closed-of : (marks : List Bool) (program : List Insn) → Marks program marks → IsClosed program marks
closed-of marks program all = λ k n i here is may. all.closed k n i (slice_get_within program k i here) here is may

-- where a marked instruction led, it leads as well once moved
shorten_jumps-may-by : (marks : List Bool) (o : Option Operation) (i : Insn) (n : ℕ) → MayPass o i n → MayPass o (shorten_by (onward_by o i) marks i) (count_marked n marks)
shorten_jumps-may-by marks None i n may = may
shorten_jumps-may-by marks (Some ReturnConstant) i n may = may
shorten_jumps-may-by marks (Some ReturnAccumulator) i n may = may
shorten_jumps-may-by marks (Some Jump) i n may = ap (λ m. count_marked m marks) may
shorten_jumps-may-by marks (Some (Branch test v)) i n (inl may) = inl (ap (λ m. count_marked m marks) may)
shorten_jumps-may-by marks (Some (Branch test v)) i n (inr may) = inr (ap (λ m. count_marked m marks) may)
shorten_jumps-may-by marks (Some other) i n may = ap (λ m. count_marked m marks) may

shorten_jumps-may : (marks : List Bool) (i : Insn) (n : ℕ) → MayPass (operation_of i.code) i n → MayPass (operation_of (shorten_jumps marks i).code) (shorten_jumps marks i) (count_marked n marks)
shorten_jumps-may marks i n may =
    subst (λ (o : Option Operation). MayPass o (shorten_jumps marks i) (count_marked n marks)) (sym (shorten_jumps-code marks i)) (shorten_jumps-may-by marks (operation_of i.code) i n may)

leads-later : (i : Insn) (program : List Insn) (from to : ℕ) → LeadsTo program from to → LeadsTo (i ∷ program) (suc from) (suc to)
leads-later i program from to leads = record { insn = leads.insn; passed = leads.passed; here = leads.here; may = leads.may; is = omega (arith, leads.is) }

leads-trimmed : (marks : List Bool) (program : List Insn) (from n : ℕ) (i : Insn) → slice_get program from ≡ Some i → IsMarked marks from → MayPass (operation_of i.code) i n
    → LeadsTo (trimmed marks program) (count_marked from marks) (count_marked (suc (from + n)) marks)
leads-trimmed [] program from n i here is may = absurd cc
leads-trimmed (mark ∷ marks) [] from n i here is may = absurd cc
leads-trimmed (true ∷ marks) (j ∷ others) zero n i here is may =
    let same : j ≡ i = cc in
    let at : 0 + n ≡ n = omega arith in
    record {
      insn = shorten_jumps marks j;
      passed = count_marked n marks;
      here = refl;
      may = shorten_jumps-may marks j n (subst (λ (x : Insn). MayPass (operation_of x.code) x n) (sym same) may);
      is = ap (λ m. suc (count_marked m marks)) at ∙ omega arith;
    }
leads-trimmed (false ∷ marks) (j ∷ others) zero n i here is may = absurd cc
leads-trimmed (true ∷ marks) (j ∷ others) (suc from) n i here is may =
    let at : suc from + n ≡ suc (from + n) = omega arith in
    subst (λ m. LeadsTo (shorten_jumps marks j ∷ trimmed marks others) (suc (count_marked from marks)) (suc (count_marked m marks))) (sym at)
    (leads-later (shorten_jumps marks j) (trimmed marks others) _ _ (leads-trimmed marks others from n i here is may))
leads-trimmed (false ∷ marks) (j ∷ others) (suc from) n i here is may =
    let at : suc from + n ≡ suc (from + n) = omega arith in
    subst (λ m. LeadsTo (trimmed marks others) (count_marked from marks) (count_marked m marks)) (sym at) (leads-trimmed marks others from n i here is may)

-- each instruction that is left was at a marked place
record WasAt (marks : List Bool) (k : ℕ) : Type 0 where
  pub place : ℕ
  pub is : IsMarked marks place
  pub now : count_marked place marks ≡ k

was-at : (marks : List Bool) (program : List Insn) (k : ℕ) → k < length (trimmed marks program) → WasAt marks k
was-at [] program k within = absurd (omega arith)
was-at (mark ∷ marks) [] k within = absurd (omega arith)
was-at (true ∷ marks) (i ∷ others) zero within = record { place = 0; is = refl; now = refl }
was-at (true ∷ marks) (i ∷ others) (suc k) within =
    let found = was-at marks others k (omega arith) in
    record { place = suc found.place; is = found.is; now = ap suc found.now }
was-at (false ∷ marks) (i ∷ others) k within =
    let found = was-at marks others k within in
    record { place = suc found.place; is = found.is; now = found.now }

-- a path leads to what is left of each marked place
path-to : (fuel : ℕ) (marks : List Bool) (program : List Insn) (place : ℕ) → MarksBefore program (length program) marks → place < fuel → IsMarked marks place
    → (n : ℕ) × IsPath (trimmed marks program) n (count_marked place marks)
path-to zero marks program place all within is = absurd (omega arith)
path-to (suc fuel) marks program place all within is = by_led (λ from below is'. path-to fuel marks program from all below is') (all.led place is)
  where
    by_led : ((from : ℕ) → from < fuel → IsMarked marks from → (n : ℕ) × IsPath (trimmed marks program) n (count_marked from marks))
        → (place ≡ 0) ⊎ ((from : ℕ) × IsMarked marks from × LeadsTo program from place) → (n : ℕ) × IsPath (trimmed marks program) n (count_marked place marks)
    by_led earlier (inl first) = (0, ap (λ m. count_marked m marks) first)
    by_led earlier (inr (from, is', leads)) =
        let before = earlier from (omega (arith, leads.is)) is' in
        let at : suc (from + leads.passed) ≡ place = omega (arith, leads.is) in (
          suc before.0,
          (
            count_marked from marks,
            before.1,
            subst (λ m. LeadsTo (trimmed marks program) (count_marked from marks) (count_marked m marks)) at (leads-trimmed marks program from leads.passed leads.insn leads.here is' leads.may),
          ),
        )

pub all-reached : (marks : List Bool) (program : List Insn) → Marks program marks → IsAllReached (trimmed marks program)
all-reached marks program all = λ k within.
    let found = was-at marks program k within in
    let path = path-to (suc found.place) marks program found.place all (omega arith) found.is in
    (path.0, subst (λ m. IsPath (trimmed marks program) path.0 m) found.now path.1)

-- inside code an instruction leads to another one
halves : (b c : Bool) → (b && c) ≡ true → (b ≡ true) × (c ≡ true)
halves true true is = (refl, refl)
halves true false is = absurd cc
halves false c is = absurd cc

passed-inside : (place passed n size : ℕ) → nat_lt (place + 1 + passed) size ≡ true → n ≡ passed → place + 1 + n < size
passed-inside place passed n size test is = grind (arith, nat_tests)

inside-by : (o : Option Operation) (i : Insn) (size place n : ℕ) → fault_in o size place i ≡ None → (is_return_code o ≡ false → place + 1 < size) → MayPass o i n → place + 1 + n < size
inside-by None i size place n none later may = absurd cc
inside-by (Some ReturnConstant) i size place n none later may = absurd may
inside-by (Some ReturnAccumulator) i size place n none later may = absurd may
inside-by (Some Jump) i size place n none later may = passed-inside place i.k n size (fine _ (JumpOut place) none) may
inside-by (Some (Branch test v)) i size place n none later (inl may) =
    passed-inside place i.jt n size (halves _ (nat_lt (place + 1 + i.jf) size) (fine _ (JumpOut place) none)).0 may
inside-by (Some (Branch test v)) i size place n none later (inr may) =
    passed-inside place i.jf n size (halves (nat_lt (place + 1 + i.jt) size) _ (fine _ (JumpOut place) none)).1 may
inside-by (Some other) i size place n none later may = let next = later refl in omega (arith, may)

later-inside : (program : List Insn) (place : ℕ) (i : Insn) → IsSoundCode program → slice_get program place ≡ Some i → place < length program → is_return i ≡ false → place + 1 < length program
later-inside program place i code here within isnt = by_place (cases_lt (place + 1) (length program))
  where
    by_place : (place + 1 < length program) ⊎ (length program ≤ place + 1) → place + 1 < length program
    by_place (inl below) = below
    by_place (inr last) =
        let at : length program - 1 ≡ place = omega arith in
        let there : slice_get program place ≡ Some code.returns.0 = subst (λ k. slice_get program k ≡ Some code.returns.0) at code.returns.1 in
        let same : i ≡ code.returns.0 = cc in
        let yes' : is_return i ≡ true = ap is_return same ∙ code.returns.2 in
        absurd cc

pub leads-inside : (program : List Insn) (place n : ℕ) (i : Insn) → IsSoundCode program → slice_get program place ≡ Some i → place < length program → MayPass (operation_of i.code) i n → place + 1 + n < length program
unfolding fault_of is_return
leads-inside program place n i code here within may =
    inside-by (operation_of i.code) i (length program) place n (code.sound place i within here) (later-inside program place i code here within) may

-- each instruction of sound code is sound
pub program-sound : (program : List Insn) (place : ℕ) (i : Insn) → IsSoundCode program → slice_get program place ≡ Some i → place < length program → IsSound i
program-sound program place i code here within = (length program, place, code.sound place i within here)

-- a program, and the places that were marked in it
pub trimmed-sound : (marks : List Bool) (program : List Insn) → IsSoundCode program → Marks program marks → IsSoundCode (trimmed marks program)
trimmed-sound marks program code all =
    by_cases (sound-trimmed marks program (λ k i here. program-sound program k i code here (slice_get_within program k i here)) (closed-of marks program all) all.inside)
  where
    by_cases : (trimmed marks program ≡ []) ⊎ IsSoundCode (trimmed marks program) → IsSoundCode (trimmed marks program)
    by_cases (inl none) = let some = count_marked-inside marks program 0 all.first (all.inside 0 all.first) in absurd (omega (arith, ap length none))
    by_cases (inr code') = code'

pub trimmed-same : (marks : List Bool) (program : List Insn) → Marks program marks → (packet : List ℕ) (wire : ℕ) → verdict (trimmed marks program) packet wire ≡ verdict program packet wire
unfolding verdict
trimmed-same marks program all packet wire =
    answers-trimmed marks program 0 packet wire initial (closed-of marks program all) all.first

-- how many are marked, one place farther
pub count_marked-more : (marks : List Bool) (n : ℕ) → n < length marks → count_marked (suc n) marks ≡ count_marked n marks + (if get_or marks n false then 1 else 0)
count_marked-more [] n within = absurd (omega arith)
count_marked-more (true ∷ marks) zero within = refl
count_marked-more (false ∷ marks) zero within = refl
count_marked-more (true ∷ marks) (suc n) within = ap suc (count_marked-more marks n (omega arith)) ∙ omega arith
count_marked-more (false ∷ marks) (suc n) within = count_marked-more marks n (omega arith)

pub count_marked-within : (marks : List Bool) (n : ℕ) → count_marked n marks ≤ n
count_marked-within marks zero = omega arith
count_marked-within [] (suc n) = omega arith
count_marked-within (true ∷ marks) (suc n) = omega (arith, count_marked-within marks n)
count_marked-within (false ∷ marks) (suc n) = omega (arith, count_marked-within marks n)

-- marks where a run may go on, by a write or two
pub marks-none : (place : ℕ) (marks : List Bool) → MarksNext place onward.Nowhere marks marks
marks-none place marks = record { size = refl; kept = λ k is. is; added = λ n may. absurd may; only = λ k is. inl is }

set-count_marked : (marks : List Bool) (place k : ℕ) → place < length marks → IsMarked marks k → IsMarked (set marks place true) k
set-count_marked marks place k within is = by_place (cases_eq k place)
  where
    by_place : (k ≡ place) ⊎ (k ≢ place) → IsMarked (set marks place true) k
    by_place (inl same) = rw same (get_or-set_same marks place true false within)
    by_place (inr other) = get_or-set_other marks place k true false other ∙ is

set-only : (marks : List Bool) (place k : ℕ) → place < length marks → IsMarked (set marks place true) k → IsMarked marks k ⊎ (k ≡ place)
set-only marks place k within is = by_place (cases_eq k place)
  where
    by_place : (k ≡ place) ⊎ (k ≢ place) → IsMarked marks k ⊎ (k ≡ place)
    by_place (inl same) = inr same
    by_place (inr other) = inl (sym (get_or-set_other marks place k true false other) ∙ is)

-- an instruction of a code that is none of a jump and none of a return goes on at the next one
next-in : (table : List (ℕ × Operation)) (code : ℕ) (i : Insn) → AllByRecursion (λ (entry : ℕ × Operation). code ≡ entry.0 → onward_by (Some entry.1) i ≡ onward.Next) table
    → (operation_in table code ≡ None) ⊎ (onward_by (operation_in table code) i ≡ onward.Next)
next-in [] code i all = inl refl
next-in (entry ∷ table) code i all = by_test (code == entry.0) (λ same. all.0 (equal-true code entry.0 same)) (next-in table code i all.1)
  where
    by_test : (b : Bool) → (b ≡ true → onward_by (Some entry.1) i ≡ onward.Next) → (operation_in table code ≡ None) ⊎ (onward_by (operation_in table code) i ≡ onward.Next)
        → ((if b then Some entry.1 else operation_in table code) ≡ None) ⊎ (onward_by (if b then Some entry.1 else operation_in table code) i ≡ onward.Next)
    by_test true here later = inr (here refl)
    by_test false here later = later

pub onward-else : (i : Insn) → IsSound i → AllByRecursion (λ (entry : ℕ × Operation). i.code ≡ entry.0 → onward_by (Some entry.1) i ≡ onward.Next) codes → onward_of i ≡ onward.Next
unfolding fault_of operation_of
onward-else i (size, place, none) all = by_cases (next-in codes i.code i all)
  where
    by_cases : (operation_in codes i.code ≡ None) ⊎ (onward_by (operation_in codes i.code) i ≡ onward.Next) → onward_by (operation_in codes i.code) i ≡ onward.Next
    by_cases (inl unknown) = let wrong = rw unknown at none in absurd cc
    by_cases (inr is) = is

-- a write, and two
pub marks-one : (place n at : ℕ) (next : Onward) (marks : List Bool) → at ≡ place + 1 + n → at < length marks → MayGo next n → ((m : ℕ) → MayGo next m → m ≡ n)
    → MarksNext place next marks (set marks at true)
marks-one place n at next marks is within may alone = record {
  size = length-set marks at true;
  kept = λ k is'. set-count_marked marks at k within is';
  added = λ m may'.
      let here : at ≡ place + 1 + m = omega (arith, alone m may') in
      subst (λ k. IsMarked (set marks at true) k) here (get_or-set_same marks at true false within);
  only = λ k is'. by_place k (set-only marks at k within is');
}
  where
    by_place : (k : ℕ) → IsMarked marks k ⊎ (k ≡ at) → IsMarked marks k ⊎ ((m : ℕ) × MayGo next m × (k ≡ place + 1 + m))
    by_place k (inl before) = inl before
    by_place k (inr same) = inr (n, may, same ∙ is)

pub marks-two : (place jt jf at at' : ℕ) (marks : List Bool) → at ≡ place + 1 + jt → at' ≡ place + 1 + jf → at < length marks → at' < length marks
    → MarksNext place (onward.Either jt jf) marks (set (set marks at true) at' true)
marks-two place jt jf at at' marks is is' within within' =
    let mid = set marks at true in
    let size : length mid ≡ length marks = length-set marks at true in
    let within-mid : at' < length mid = omega arith in
    record {
      size = length-set mid at' true ∙ size;
      kept = λ k before. set-count_marked mid at' k within-mid (set-count_marked marks at k within before);
      added = λ m may. by_exit m may within-mid;
      only = λ k now. by_second k (set-only mid at' k within-mid now);
    }
  where
    by_exit : (m : ℕ) → (m ≡ jt) ⊎ (m ≡ jf) → at' < length (set marks at true) → IsMarked (set (set marks at true) at' true) (place + 1 + m)
    by_exit m (inl same) within-mid =
        let here : at ≡ place + 1 + m = omega arith in
        subst (λ k. IsMarked (set (set marks at true) at' true) k) here (set-count_marked (set marks at true) at' at within-mid (get_or-set_same marks at true false within))
    by_exit m (inr same) within-mid =
        let here : at' ≡ place + 1 + m = omega arith in
        subst (λ k. IsMarked (set (set marks at true) at' true) k) here (get_or-set_same (set marks at true) at' true false within-mid)

    by_first : (k : ℕ) → IsMarked marks k ⊎ (k ≡ at) → IsMarked marks k ⊎ ((m : ℕ) × ((m ≡ jt) ⊎ (m ≡ jf)) × (k ≡ place + 1 + m))
    by_first k (inl before) = inl before
    by_first k (inr same) = inr (jt, inl refl, same ∙ is)

    by_second : (k : ℕ) → IsMarked (set marks at true) k ⊎ (k ≡ at') → IsMarked marks k ⊎ ((m : ℕ) × ((m ≡ jt) ⊎ (m ≡ jf)) × (k ≡ place + 1 + m))
    by_second k (inl before) = by_first k (set-only marks at k within before)
    by_second k (inr same) = inr (jf, inr refl, same ∙ is')

-- the first place is marked before anything else
pub marks-begin : (program : List Insn) (marks : List Bool) → 0 < length program → length program ≤ length marks → ((k : ℕ) → get_or marks k false ≡ false) → MarksBefore program 0 (set marks 0 true)
marks-begin program marks some room clear =
    let within : 0 < length marks = omega arith in
    record {
      first = get_or-set_same marks 0 true false within;
      inside = λ k is. by_place k (set-only marks 0 k within is);
      closed = λ k n i below here is may. absurd (omega arith);
      led = λ k is. by_first k (set-only marks 0 k within is);
    }
  where
    by_place : (k : ℕ) → IsMarked marks k ⊎ (k ≡ 0) → k < length program
    by_place k (inl before) = let unmarked = clear k in absurd cc
    by_place k (inr same) = omega arith

    by_first : (k : ℕ) → IsMarked marks k ⊎ (k ≡ 0) → (k ≡ 0) ⊎ ((from : ℕ) × IsMarked (set marks 0 true) from × LeadsTo program from k)
    by_first k (inl before) = let unmarked = clear k in absurd cc
    by_first k (inr same) = inl same

-- one place farther, where what the instruction leads to was marked
pub marks-step : (program : List Insn) (place : ℕ) (i : Insn) (marks marks' : List Bool) → IsSoundCode program → slice_get program place ≡ Some i → place < length program
    → IsMarked marks place → MarksBefore program place marks → MarksNext place (onward_of i) marks marks' → MarksBefore program (place + 1) marks'
marks-step program place i marks marks' code here within is all next = record {
  first = next.kept 0 all.first;
  inside = λ k now. by_inside k (next.only k now);
  closed = λ k n j below here' now may. by_place k n j here' now may (cases_lt k place) below;
  led = λ k now. by_led k (next.only k now);
}
  where
    New : ℕ → Type 0
    New k = (m : ℕ) × MayGo (onward_of i) m × (k ≡ place + 1 + m)

    by_inside : (k : ℕ) → IsMarked marks k ⊎ New k → k < length program
    by_inside k (inl before) = all.inside k before
    by_inside k (inr (m, may, same)) = let below = leads-inside program place m i code here within (go-may (operation_of i.code) i m may) in omega arith

    by_before : (k n : ℕ) (j : Insn) → k < place → slice_get program k ≡ Some j → IsMarked marks k ⊎ New k → MayPass (operation_of j.code) j n → IsMarked marks' (k + 1 + n)
    by_before k n j below here' (inl before) may = next.kept _ (all.closed k n j below here' before may)
    by_before k n j below here' (inr (m, may', same)) may = absurd (omega arith)

    by_place : (k n : ℕ) (j : Insn) → slice_get program k ≡ Some j → IsMarked marks' k → MayPass (operation_of j.code) j n → (k < place) ⊎ (place ≤ k) → k < place + 1 → IsMarked marks' (k + 1 + n)
    by_place k n j here' now may (inl before) below = by_before k n j before here' (next.only k now) may
    by_place k n j here' now may (inr from) below =
        let at : k ≡ place = omega arith in
        let there : slice_get program place ≡ Some j = subst (λ l. slice_get program l ≡ Some j) at here' in
        let same : j ≡ i = cc in
        let may' : MayPass (operation_of i.code) i n = subst (λ (x : Insn). MayPass (operation_of x.code) x n) same may in
        subst (λ l. IsMarked marks' (l + 1 + n)) (sym at) (next.added n (may-go (operation_of i.code) i n may'))

    by_old : (k : ℕ) → (k ≡ 0) ⊎ ((from : ℕ) × IsMarked marks from × LeadsTo program from k) → (k ≡ 0) ⊎ ((from : ℕ) × IsMarked marks' from × LeadsTo program from k)
    by_old k (inl first) = inl first
    by_old k (inr (from, before, leads)) = inr (from, next.kept from before, leads)

    by_led : (k : ℕ) → IsMarked marks k ⊎ New k → (k ≡ 0) ⊎ ((from : ℕ) × IsMarked marks' from × LeadsTo program from k)
    by_led k (inl before) = by_old k (all.led k before)
    by_led k (inr (m, may, same)) =
        inr (place, next.kept place is, record { insn = i; passed = m; here = here; may = go-may (operation_of i.code) i m may; is = same })

-- and where the place is not marked
pub marks-skip : (program : List Insn) (place : ℕ) (marks : List Bool) → get_or marks place false ≡ false → MarksBefore program place marks → MarksBefore program (place + 1) marks
marks-skip program place marks unmarked all = record {
  first = all.first;
  inside = all.inside;
  closed = λ k n i below here is may. by_place k n i here is may (cases_lt k place) below;
  led = all.led;
}
  where
    by_place : (k n : ℕ) (j : Insn) → slice_get program k ≡ Some j → IsMarked marks k → MayPass (operation_of j.code) j n → (k < place) ⊎ (place ≤ k) → k < place + 1 → IsMarked marks (k + 1 + n)
    by_place k n j here is may (inl before) below = all.closed k n j before here is may
    by_place k n j here is may (inr from) below =
        let at : k ≡ place = omega arith in
        let is' : IsMarked marks place = subst (λ l. IsMarked marks l) at is in
        absurd cc

-- a walk that is through has marked what is reached
pub marks-all : (program : List Insn) (place : ℕ) (marks : List Bool) → length program ≤ place → MarksBefore program place marks → Marks program marks
marks-all program place marks through all = record {
  first = all.first;
  inside = all.inside;
  closed = λ k n i below here is may. all.closed k n i (omega arith) here is may;
  led = all.led;
}

-- the instructions at the marked places, one place farther
trimmed-count_marked : (marks : List Bool) (program : List Insn) (place : ℕ) (d : Insn) → place < length program → place < length marks → get_or marks place false ≡ true
    → trimmed (drop place marks) (drop place program) ≡ shorten_jumps (drop (suc place) marks) (get_or program place d) ∷ trimmed (drop (suc place) marks) (drop (suc place) program)
trimmed-count_marked marks program place d within room mark = rw (drop-cons marks place false room, drop-cons program place d within, mark) refl

trimmed-unmarked : (marks : List Bool) (program : List Insn) (place : ℕ) (d : Insn) → place < length program → place < length marks → get_or marks place false ≡ false
    → trimmed (drop place marks) (drop place program) ≡ trimmed (drop (suc place) marks) (drop (suc place) program)
trimmed-unmarked marks program place d within room mark = rw (drop-cons marks place false room, drop-cons program place d within, mark) refl

pub kept-step : (marks : List Bool) (program kept kept' whole : List Insn) (place : ℕ) (d : Insn) (i : Insn) → place < length program → place < length marks → get_or marks place false ≡ true
    → i ≡ shorten_jumps (take (length marks - (place + 1)) (drop (place + 1) marks)) (get_or program place d) → kept' ≡ kept ++ i ∷ []
    → kept ++ trimmed (drop place marks) (drop place program) ≡ whole → kept' ++ trimmed (drop (place + 1) marks) (drop (place + 1) program) ≡ whole
kept-step marks program kept kept' whole place d i within room mark is kept-is before =
    let one : place + 1 ≡ suc place = omega arith in
    let whole' : take (length marks - (place + 1)) (drop (place + 1) marks) ≡ drop (suc place) marks =
    take_all _ _ (omega (arith, length-drop (place + 1) marks)) ∙ ap (λ n. drop n marks) one in
    let is' : i ≡ shorten_jumps (drop (suc place) marks) (get_or program place d) = is ∙ ap (λ l. shorten_jumps l (get_or program place d)) whole' in
    rw (one, kept-is)
    (append_assoc kept (i ∷ []) _
    ∙ ap (λ x. kept ++ x ∷ trimmed (drop (suc place) marks) (drop (suc place) program)) is'
    ∙ ap (λ l. kept ++ l) (sym (trimmed-count_marked marks program place d within room mark))
    ∙ before)

pub pushed-length : (kept kept' : List Insn) (i : Insn) → kept' ≡ kept ++ i ∷ [] → length kept' ≡ length kept + 1
pushed-length kept kept' i is = ap length is ∙ length-append kept (i ∷ []) ∙ omega arith

pub skip-step : (marks : List Bool) (program kept whole : List Insn) (place : ℕ) → place < length program → place < length marks → get_or marks place false ≡ false
    → kept ++ trimmed (drop place marks) (drop place program) ≡ whole → kept ++ trimmed (drop (place + 1) marks) (drop (place + 1) program) ≡ whole
skip-step marks program kept whole place within room mark before =
    let one : place + 1 ≡ suc place = omega arith in
    rw one (ap (λ l. kept ++ l) (sym (trimmed-unmarked marks program place (insn_of 0 0 0 0) within room mark)) ∙ before)

trimmed-none : (marks : List Bool) → trimmed marks [] ≡ []
trimmed-none [] = refl
trimmed-none (mark ∷ marks) = refl

pub kept-all : (marks : List Bool) (program kept whole : List Insn) (place : ℕ) → length program ≤ place → kept ++ trimmed (drop place marks) (drop place program) ≡ whole → kept ≡ whole
kept-all marks program kept whole place through before =
    sym (ap (λ l. kept ++ trimmed (drop place marks) l) (drop_all place program through) ∙ ap (λ l. kept ++ l) (trimmed-none (drop place marks)) ∙ append-nil kept) ∙ before

pub none-count_marked : (n k : ℕ) → get_or (replicate n false) k false ≡ false
none-count_marked zero k = refl
none-count_marked (suc n) zero = refl
none-count_marked (suc n) (suc k) = none-count_marked n k

-- as the code says it
pub next-inside : (program : List Insn) (place n : ℕ) (d : Insn) (goes : Onward) → IsSoundCode program → place < length program → goes ≡ onward_of (get_or program place d) → MayGo goes n → place + 1 + n < length program
next-inside program place n d goes code within is may =
    let i = get_or program place d in
    let may' : MayGo (onward_of i) n = subst (λ (x : Onward). MayGo x n) is may in
    leads-inside program place n i code (slice_get-get_or program place d within) within (go-may (operation_of i.code) i n may')

pub next-sound : (program : List Insn) (place : ℕ) (d : Insn) → IsSoundCode program → place < length program → IsSound (get_or program place d)
next-sound program place d code within = program-sound program place (get_or program place d) code (slice_get-get_or program place d within) within

pub next-count_marked : (program : List Insn) (place : ℕ) (d : Insn) (goes : Onward) (marks marks' : List Bool) → IsSoundCode program → place < length program → goes ≡ onward_of (get_or program place d)
    → IsMarked marks place → MarksBefore program place marks → MarksNext place goes marks marks' → MarksBefore program (place + 1) marks'
next-count_marked program place d goes marks marks' code within is here all new =
    marks-step program place (get_or program place d) marks marks' code (slice_get-get_or program place d within) within here all (subst (λ (x : Onward). MarksNext place x marks marks') is new)

-- the marks after a place
pub after-inside : (marks : List Bool) (place n : ℕ) → place + 1 + n < length marks → n ≤ length (take (length marks - (place + 1)) (drop (place + 1) marks))
after-inside marks place n below =
    let whole = take_all (length marks - (place + 1)) (drop (place + 1) marks) (omega (arith, length-drop (place + 1) marks)) in
    omega (arith, ap length whole, length-drop (place + 1) marks)

-- one more of the first marks is counted, or not
pub counted : (marks : List Bool) (passed n k : ℕ) → n < length (take passed marks) → k ≡ count_marked n marks → get_or (take passed marks) n false ≡ true → k + 1 ≡ count_marked (n + 1) marks
counted marks passed n k within is mark =
    let at : n + 1 ≡ suc n = omega arith in
    let before : n < passed = omega (arith, length-take passed marks) in
    let inside : n < length marks = omega (arith, length-take passed marks) in
    let this : get_or marks n false ≡ true = sym (get_or-take passed marks n false before) ∙ mark in
    let more : count_marked (suc n) marks ≡ count_marked n marks + 1 = count_marked-more marks n inside ∙ ap (λ b. count_marked n marks + (if b then 1 else 0)) this in
    rw at (omega (arith, is, more))

pub uncounted : (marks : List Bool) (passed n k : ℕ) → n < length (take passed marks) → k ≡ count_marked n marks → get_or (take passed marks) n false ≡ false → k ≡ count_marked (n + 1) marks
uncounted marks passed n k within is mark =
    let at : n + 1 ≡ suc n = omega arith in
    let before : n < passed = omega (arith, length-take passed marks) in
    let inside : n < length marks = omega (arith, length-take passed marks) in
    let this : get_or marks n false ≡ false = sym (get_or-take passed marks n false before) ∙ mark in
    let more : count_marked (suc n) marks ≡ count_marked n marks + 0 = count_marked-more marks n inside ∙ ap (λ b. count_marked n marks + (if b then 1 else 0)) this in
    rw at (omega (arith, is, more))
