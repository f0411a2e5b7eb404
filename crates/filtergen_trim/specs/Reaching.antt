-- Which instructions of a program some path of jumps reaches from its first one.
use Rattle.std.specs.Prelude.{◌≡◌, ℕ, zero, suc, ◌+◌, ◌<◌, ◌⊎◌, List, length, Option, Some, None, slice_get}
use Rattle.bpfvm.specs.declared.insn.Insn.{Insn}
use Rattle.bpfvm.specs.Codes.{Operation, Jump, Branch, ReturnConstant, ReturnAccumulator, operation_of}

-- An instruction of this operation may pass this many of those that follow it: a return leads nowhere, a jump passes k, a
-- conditional one jt or jf, and every other instruction none.
abbrev pub MayPass : Option Operation → Insn → ℕ → Type 0
MayPass None i passed = ⊥
MayPass (Some ReturnConstant) i passed = ⊥
MayPass (Some ReturnAccumulator) i passed = ⊥
MayPass (Some Jump) i passed = passed ≡ i.k
MayPass (Some (Branch test v)) i passed = (passed ≡ i.jt) ⊎ (passed ≡ i.jf)
MayPass (Some other) i passed = passed ≡ 0

-- the instruction at one place may lead to another place
pub record LeadsTo (program : List Insn) (from to : ℕ) : Type 0 where
  pub insn : Insn
  pub passed : ℕ
  pub here : slice_get program from ≡ Some insn
  pub may : MayPass (operation_of insn.code) insn passed
  pub is : to ≡ from + 1 + passed

-- this many steps lead from the first instruction to a place
abbrev pub IsPath : List Insn → ℕ → ℕ → Type 0
IsPath program zero place = place ≡ 0
IsPath program (suc n) place = (from : ℕ) × IsPath program n from × LeadsTo program from place

-- some path leads to each instruction
abbrev pub IsAllReached : List Insn → Type 0
IsAllReached program = (place : ℕ) → place < length program → (n : ℕ) × IsPath program n place
