-- Sound code stays so when a sound instruction is put in front.
use Rattle.std.proofs.Common.{◌≡◌, ℕ, zero, suc, ◌+◌, ◌-◌, ◌<◌, Bool, true, false, ◌&&◌, nat_lt, List, [], ◌∷◌, length, Option, Some, None, refl, ap, subst, arith}
use Rattle.std.proofs.lemmas.Bool.Decides.{nat_tests}
use Rattle.std.specs.List.{slice_get}
use Rattle.bpfvm.specs.declared.insn.Insn.{Insn}
use Rattle.bpfvm.specs.declared.fault.Invalid.{Invalid}
use Rattle.bpfvm.specs.declared.fault.Invalid.TheVariants.{JumpOut, Cell, ZeroDivisor}
use Rattle.bpfvm.specs.Codes.{Constant, InIndex, Add, Subtract, Multiply, Divide, Or, And, ShiftLeft, ShiftRight, Modulo, ExclusiveOr, Operation, LoadMemory, Store, Calculate, Jump, Branch, operation_of}
use Rattle.bpfvm.specs.Validity.{fault_unless, fault_in, fault_of, SoundBefore, EndsInReturn}
use Rattle.filtergen_trim.specs.Sound.{IsSoundCode}

-- a bar that gives no fault holds
pub fine : (b : Bool) (f : Invalid) → fault_unless b f ≡ None → b ≡ true
fine true f none = refl
fine false f none = absurd cc

below-later : (place n size : ℕ) (f : Invalid) → fault_unless (nat_lt (place + 1 + n) size) f ≡ None → nat_lt (suc place + 1 + n) (suc size) ≡ true
below-later place n size f none = let h = fine (nat_lt (place + 1 + n) size) f none in grind (arith, nat_tests)

both-later : (place m n size : ℕ) (f : Invalid) → fault_unless (nat_lt (place + 1 + m) size && nat_lt (place + 1 + n) size) f ≡ None → (nat_lt (suc place + 1 + m) (suc size) && nat_lt (suc place + 1 + n) (suc size)) ≡ true
both-later place m n size f none = let h = fine (nat_lt (place + 1 + m) size && nat_lt (place + 1 + n) size) f none in grind (arith, nat_tests)

pub unless-true : (b : Bool) (f : Invalid) → b ≡ true → fault_unless b f ≡ None
unless-true b f is = ap (λ b'. fault_unless b' f) is

pub same-bar : (b : Bool) (f g : Invalid) → fault_unless b f ≡ None → fault_unless b g ≡ None
same-bar b f g none = unless-true b g (fine b f none)

-- an instruction that is sound at a place is sound one place later, in a program of one more
fault_in-later : (o : Option Operation) (size place : ℕ) (i : Insn) → fault_in o size place i ≡ None → fault_in o (suc size) (suc place) i ≡ None
fault_in-later None size place i none = absurd cc
fault_in-later (Some Jump) size place i none = unless-true _ (JumpOut (suc place)) (below-later place i.k size (JumpOut place) none)
fault_in-later (Some (Branch test v)) size place i none = unless-true _ (JumpOut (suc place)) (both-later place i.jt i.jf size (JumpOut place) none)
fault_in-later (Some (LoadMemory to)) size place i none = same-bar _ (Cell place) (Cell (suc place)) none
fault_in-later (Some (Store from)) size place i none = same-bar _ (Cell place) (Cell (suc place)) none
fault_in-later (Some (Calculate Divide Constant)) size place i none = same-bar _ (ZeroDivisor place) (ZeroDivisor (suc place)) none
fault_in-later (Some (Calculate Divide InIndex)) size place i none = refl
fault_in-later (Some (Calculate Modulo Constant)) size place i none = same-bar _ (ZeroDivisor place) (ZeroDivisor (suc place)) none
fault_in-later (Some (Calculate Modulo InIndex)) size place i none = refl
fault_in-later (Some (Calculate Add v)) size place i none = refl
fault_in-later (Some (Calculate Subtract v)) size place i none = refl
fault_in-later (Some (Calculate Multiply v)) size place i none = refl
fault_in-later (Some (Calculate Or v)) size place i none = refl
fault_in-later (Some (Calculate And v)) size place i none = refl
fault_in-later (Some (Calculate ShiftLeft v)) size place i none = refl
fault_in-later (Some (Calculate ShiftRight v)) size place i none = refl
fault_in-later (Some (Calculate ExclusiveOr v)) size place i none = refl
fault_in-later (Some other) size place i none = refl

all-sound : (i : Insn) (rest : List Insn) → SoundBefore rest (length rest) → fault_of (length rest + 1) 0 i ≡ None → SoundBefore (i ∷ rest) (length (i ∷ rest))
unfolding fault_of
all-sound i rest sound first zero j within here =
    let same : i ≡ j = cc in
    let size : length rest + 1 ≡ suc (length rest) = omega arith in
    subst (λ (x : Insn). fault_of (suc (length rest)) 0 x ≡ None) same (subst (λ n. fault_of n 0 i ≡ None) size first)
all-sound i rest sound first (suc place) j within here =
    fault_in-later (operation_of j.code) (length rest) place j (sound place j (omega arith) here)

still-ends : (i : Insn) (rest : List Insn) → 0 < length rest → EndsInReturn rest → EndsInReturn (i ∷ rest)
still-ends i [] some ends = absurd (omega arith)
still-ends i (j ∷ others) some (last, here, returns) =
    let at : length (j ∷ others) - 1 ≡ length others = omega arith in
    let at' : length others + 1 ≡ length (i ∷ j ∷ others) - 1 = omega arith in
    let at'' : suc (length others) ≡ length (i ∷ j ∷ others) - 1 = omega arith in
    let here' : slice_get (i ∷ j ∷ others) (suc (length others)) ≡ Some last = subst (λ n. slice_get (j ∷ others) n ≡ Some last) at here in
    (last, subst (λ n. slice_get (i ∷ j ∷ others) n ≡ Some last) at'' here', returns)

pub sound-grown : (i : Insn) (rest : List Insn) → IsSoundCode rest → fault_of (length rest + 1) 0 i ≡ None → IsSoundCode (i ∷ rest)
sound-grown i rest code first = record {
  some = omega arith;
  sound = all-sound i rest code.sound first;
  returns = still-ends i rest code.some code.returns;
}

pub both-inside : (m n size : ℕ) → m < size → n < size → (nat_lt (0 + 1 + m) (size + 1) && nat_lt (0 + 1 + n) (size + 1)) ≡ true
both-inside m n size first second = grind (arith, nat_tests)
