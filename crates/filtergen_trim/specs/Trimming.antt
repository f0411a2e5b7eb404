-- How instructions that nothing reaches are removed. Only private clauses use this.
use Rattle.std.specs.Prelude.{◌≡◌, ℕ, zero, suc, ◌+◌, ◌<◌, ◌⊎◌, Bool, true, false, List, [], ◌∷◌, length, Option, Some, None, slice_get, slice_index_or}
use Rattle.bpfvm.specs.declared.insn.Insn.{Insn}
use Rattle.bpfvm.specs.Codes.{Operation, Jump, Branch, ReturnConstant, ReturnAccumulator, operation_of}
use Rattle.bpfvm.specs.Validity.{fault_of}
use Rattle.filtergen_trim.specs.declared.unreached.Onward.{Onward}
use Rattle.filtergen_trim.specs.declared.unreached.Onward.TheVariants as onward
use Rattle.filtergen_trim.specs.Reaching.{MayPass, LeadsTo}

-- where a run goes on after an instruction of this operation
abbrev pub onward_by : Option Operation → Insn → Onward
onward_by None i = onward.Nowhere
onward_by (Some ReturnConstant) i = onward.Nowhere
onward_by (Some ReturnAccumulator) i = onward.Nowhere
onward_by (Some Jump) i = onward.Jump i.k
onward_by (Some (Branch test v)) i = onward.Either i.jt i.jf
onward_by (Some other) i = onward.Next

abbrev pub onward_of : Insn → Onward
onward_of i = onward_by (operation_of i.code) i

-- it may pass this many
abbrev pub MayGo : Onward → ℕ → Type 0
MayGo onward.Nowhere n = ⊥
MayGo onward.Next n = n ≡ 0
MayGo (onward.Jump k) n = n ≡ k
MayGo (onward.Either jt jf) n = (n ≡ jt) ⊎ (n ≡ jf)

-- this instruction is sound somewhere in some program
abbrev pub IsSound : Insn → Type 0
IsSound i = (size : ℕ) × (place : ℕ) × (fault_of size place i ≡ None)

abbrev pub IsMarked : List Bool → ℕ → Type 0
IsMarked marks place = slice_index_or marks place false ≡ true

-- how many of the first places are marked
abbrev pub count_marked : ℕ → List Bool → ℕ
count_marked zero marks = 0
count_marked (suc n) [] = 0
count_marked (suc n) (true ∷ marks) = suc (count_marked n marks)
count_marked (suc n) (false ∷ marks) = count_marked n marks

-- an instruction that passes only what is marked of what it passed
abbrev pub shorten_by : Onward → List Bool → Insn → Insn
shorten_by onward.Nowhere after i = i
shorten_by onward.Next after i = i
shorten_by (onward.Jump k) after i = record { code = i.code; jt = i.jt; jf = i.jf; k = count_marked k after }
shorten_by (onward.Either jt jf) after i = record { code = i.code; jt = count_marked jt after; jf = count_marked jf after; k = i.k }

abbrev pub shorten_jumps : List Bool → Insn → Insn
shorten_jumps after i = shorten_by (onward_of i) after i

-- the instructions at the marked places
abbrev pub trimmed : List Bool → List Insn → List Insn
trimmed [] program = []
trimmed (mark ∷ marks) [] = []
trimmed (true ∷ marks) (i ∷ others) = shorten_jumps marks i ∷ trimmed marks others
trimmed (false ∷ marks) (i ∷ others) = trimmed marks others

-- where a run goes on from a place is marked, beside what was
pub record MarksNext (place : ℕ) (next : Onward) (old new : List Bool) : Type 0 where
  pub size : length new ≡ length old
  pub kept : (k : ℕ) → IsMarked old k → IsMarked new k
  pub added : (n : ℕ) → MayGo next n → IsMarked new (place + 1 + n)
  pub only : (k : ℕ) → IsMarked new k → IsMarked old k ⊎ ((n : ℕ) × MayGo next n × (k ≡ place + 1 + n))

-- Before a place: what a marked instruction leads to is marked. Everywhere: a marked place is the first one, or another marked
-- one leads to it.
pub record MarksBefore (program : List Insn) (place : ℕ) (marks : List Bool) : Type 0 where
  pub first : IsMarked marks 0
  pub inside : (k : ℕ) → IsMarked marks k → k < length program
  pub closed : (k n : ℕ) (i : Insn) → k < place → slice_get program k ≡ Some i → IsMarked marks k → MayPass (operation_of i.code) i n → IsMarked marks (k + 1 + n)
  pub led : (k : ℕ) → IsMarked marks k → (k ≡ 0) ⊎ ((from : ℕ) × IsMarked marks from × LeadsTo program from k)

-- the marked places are those that are reached
abbrev pub Marks : List Insn → List Bool → Type 0
Marks program marks = MarksBefore program (length program) marks
