-- The instructions that are put in front are sound.
use Rattle.std.proofs.Common.{◌≡◌, ℕ, zero, suc, ◌+◌, ◌<◌, true, ◌&&◌, nat_lt, List, [], ◌∷◌, length, Option, Some, None, refl, subst, arith}
use Rattle.std.proofs.lemmas.Bool.Decides.{nat_tests}
use Rattle.bpfvm.specs.declared.insn.Insn.{Insn}
use Rattle.bpfvm.specs.declared.fault.Invalid.{Invalid}
use Rattle.bpfvm.specs.declared.fault.Invalid.TheVariants.{JumpOut, Cell, ZeroDivisor}
use Rattle.bpfvm.specs.Codes.{Constant, InIndex, Add, Subtract, Multiply, Divide, Or, And, ShiftLeft, ShiftRight, Modulo, ExclusiveOr, Operation, LoadMemory, Store, Calculate, Jump, Branch, operation_of}
use Rattle.filtergen_code.specs.declared.insns.Jump.{Jump as Leap}
use Rattle.filtergen_code.specs.declared.insns.Jump.TheVariants as jumps
use Rattle.filtergen_code.specs.declared.insns.Operand.{Operand as Against}
use Rattle.filtergen_code.specs.declared.insns.Operand.TheVariants as operands
use Rattle.filtergen_code.specs.declared.insns.Field.{Field}
use Rattle.filtergen_code.specs.declared.insns.Field.TheVariants as fields
use Rattle.filter_tree.specs.declared.tree.Operator.{Operator as Sign}
use Rattle.filter_tree.specs.declared.tree.Operator.TheVariants as operators
use Rattle.filtergen_code.specs.Insns.{plain_insn, branch_insn, load_insn, calculation_insn}
use Rattle.filtergen_code.specs.Parts.{MayBeOperand}
use Rattle.bpfvm.specs.Validity.{fault_unless, fault_in, fault_of, is_return, SoundBefore}
use Rattle.filtergen_trim.specs.Sound.{IsSoundCode}
use Rattle.filtergen_trim.proofs.Growing.{fine, unless-true, both-inside}

-- the two returns are sound code
pub sound-returns : (m n : ℕ) → IsSoundCode (record { code = 6; jt = 0; jf = 0; k = m } ∷ record { code = 6; jt = 0; jf = 0; k = n } ∷ [])
unfolding fault_of is_return operation_of
sound-returns m n = record {
  some = omega arith;
  sound = each;
  returns = (record { code = 6; jt = 0; jf = 0; k = n }, refl, refl);
}
  where
    each : SoundBefore (record { code = 6; jt = 0; jf = 0; k = m } ∷ record { code = 6; jt = 0; jf = 0; k = n } ∷ []) 2
    each zero i within here = let same : record { code = 6; jt = 0; jf = 0; k = m } ≡ i = cc in subst (λ (x : Insn). fault_of 2 0 x ≡ None) same refl
    each (suc zero) i within here = let same : record { code = 6; jt = 0; jf = 0; k = n } ≡ i = cc in subst (λ (x : Insn). fault_of 2 1 x ≡ None) same refl
    each (suc (suc k)) i within here = absurd (omega arith)

-- a jump to a place of the rest is sound
pub jump-sound : (rest : List Insn) (distance : ℕ) → distance < length rest → fault_of (length rest + 1) 0 (plain_insn 5 distance) ≡ None
unfolding fault_of operation_of
jump-sound rest distance inside =
    let inside' : nat_lt (0 + 1 + distance) (length rest + 1) ≡ true = grind (arith, nat_tests) in
    unless-true _ (JumpOut 0) inside'

pub return-sound : (n size : ℕ) → fault_of size 0 (plain_insn 6 n) ≡ None
unfolding fault_of operation_of
return-sound n size = refl

pub branch-sound : (j : Leap) (o : Against) (rest : List Insn) (jt jf : ℕ) → jt < length rest → jf < length rest → fault_of (length rest + 1) 0 (branch_insn j o jt jf) ≡ None
unfolding fault_of operation_of
branch-sound jumps.Equal (operands.Constant k) rest jt jf first second = unless-true _ (JumpOut 0) (both-inside jt jf (length rest) first second)
branch-sound jumps.Greater (operands.Constant k) rest jt jf first second = unless-true _ (JumpOut 0) (both-inside jt jf (length rest) first second)
branch-sound jumps.GreaterOrEqual (operands.Constant k) rest jt jf first second = unless-true _ (JumpOut 0) (both-inside jt jf (length rest) first second)
branch-sound jumps.AnyBit (operands.Constant k) rest jt jf first second = unless-true _ (JumpOut 0) (both-inside jt jf (length rest) first second)
branch-sound jumps.Equal operands.Index rest jt jf first second = unless-true _ (JumpOut 0) (both-inside jt jf (length rest) first second)
branch-sound jumps.Greater operands.Index rest jt jf first second = unless-true _ (JumpOut 0) (both-inside jt jf (length rest) first second)
branch-sound jumps.GreaterOrEqual operands.Index rest jt jf first second = unless-true _ (JumpOut 0) (both-inside jt jf (length rest) first second)
branch-sound jumps.AnyBit operands.Index rest jt jf first second = unless-true _ (JumpOut 0) (both-inside jt jf (length rest) first second)

pub load-sound : (f : Field) (size : ℕ) → fault_of size 0 (load_insn f) ≡ None
unfolding fault_of operation_of
load-sound (fields.Byte o) size = refl
load-sound (fields.Half o) size = refl
load-sound (fields.Word o) size = refl
load-sound fields.Length size = refl

pub mask-sound : (m size : ℕ) → fault_of size 0 (plain_insn 0x54 m) ≡ None
unfolding fault_of operation_of
mask-sound m size = refl

below-longer : (n size : ℕ) (f : Invalid) → fault_unless (nat_lt (0 + 1 + n) 1) f ≡ None → ⊥
below-longer n size f none = let h = fine (nat_lt (0 + 1 + n) 1) f none in grind (arith, nat_tests)

two-longer : (m n : ℕ) (f : Invalid) → fault_unless (nat_lt (0 + 1 + m) 1 && nat_lt (0 + 1 + n) 1) f ≡ None → ⊥
two-longer m n f none = let h = fine (nat_lt (0 + 1 + m) 1 && nat_lt (0 + 1 + n) 1) f none in grind (arith, nat_tests)

-- what is sound with nothing after it is no jump, and sound before whatever follows
fault_in-alone : (o : Option Operation) (size : ℕ) (i : Insn) → fault_in o 1 0 i ≡ None → fault_in o size 0 i ≡ None
fault_in-alone None size i none = absurd cc
fault_in-alone (Some Jump) size i none = absurd (below-longer i.k size (JumpOut 0) none)
fault_in-alone (Some (Branch test v)) size i none = absurd (two-longer i.jt i.jf (JumpOut 0) none)
fault_in-alone (Some (LoadMemory to)) size i none = none
fault_in-alone (Some (Store from)) size i none = none
fault_in-alone (Some (Calculate Divide Constant)) size i none = none
fault_in-alone (Some (Calculate Divide InIndex)) size i none = refl
fault_in-alone (Some (Calculate Modulo Constant)) size i none = none
fault_in-alone (Some (Calculate Modulo InIndex)) size i none = refl
fault_in-alone (Some (Calculate Add v)) size i none = refl
fault_in-alone (Some (Calculate Subtract v)) size i none = refl
fault_in-alone (Some (Calculate Multiply v)) size i none = refl
fault_in-alone (Some (Calculate Or v)) size i none = refl
fault_in-alone (Some (Calculate And v)) size i none = refl
fault_in-alone (Some (Calculate ShiftLeft v)) size i none = refl
fault_in-alone (Some (Calculate ShiftRight v)) size i none = refl
fault_in-alone (Some (Calculate ExclusiveOr v)) size i none = refl
fault_in-alone (Some other) size i none = refl

pub sound-alone : (i : Insn) (size : ℕ) → fault_of 1 0 i ≡ None → fault_of size 0 i ≡ None
unfolding fault_of
sound-alone i size none = fault_in-alone (operation_of i.code) size i none

pub cell-sound : (cell : ℕ) → cell < 16 → fault_unless (nat_lt cell 16) (Cell 0) ≡ None
cell-sound cell below = let h : nat_lt cell 16 ≡ true = grind (arith, nat_tests) in unless-true _ (Cell 0) h

-- a constant after its operator, and the index register after any
pub calculation_sound : (o : Sign) (v : Against) → MayBeOperand o v → fault_of 1 0 (calculation_insn o v) ≡ None
unfolding fault_of operation_of
calculation_sound operators.Plus (operands.Constant k) may = refl
calculation_sound operators.Minus (operands.Constant k) may = refl
calculation_sound operators.Times (operands.Constant k) may = refl
calculation_sound operators.Divide (operands.Constant k) may = let h : nat_lt 0 k ≡ true = grind (arith, nat_tests) in unless-true _ (ZeroDivisor 0) h
calculation_sound operators.Modulo (operands.Constant k) may = let h : nat_lt 0 k ≡ true = grind (arith, nat_tests) in unless-true _ (ZeroDivisor 0) h
calculation_sound operators.BitAnd (operands.Constant k) may = refl
calculation_sound operators.BitXor (operands.Constant k) may = refl
calculation_sound operators.BitOr (operands.Constant k) may = refl
calculation_sound operators.ShiftLeft (operands.Constant k) may = refl
calculation_sound operators.ShiftRight (operands.Constant k) may = refl
calculation_sound operators.Plus operands.Index may = refl
calculation_sound operators.Minus operands.Index may = refl
calculation_sound operators.Times operands.Index may = refl
calculation_sound operators.Divide operands.Index may = refl
calculation_sound operators.Modulo operands.Index may = refl
calculation_sound operators.BitAnd operands.Index may = refl
calculation_sound operators.BitXor operands.Index may = refl
calculation_sound operators.BitOr operands.Index may = refl
calculation_sound operators.ShiftLeft operands.Index may = refl
calculation_sound operators.ShiftRight operands.Index may = refl
