-- What code that is written from its end does. Only private clauses use this.
use Rattle.std.specs.Prelude.{◌≡◌, ℕ, ◌+◌, ◌-◌, ◌<◌, ◌≤◌, List, ◌∷◌, length, Bool, Option, Some, None, if◌then◌else◌, slice_index, Result, MatchResult, ◌⊎◌}
use Rattle.bpfvm.specs.declared.insn.Insn.{Insn}
use Rattle.bpfvm.specs.Codes.{Register, Comparison, Equal, Greater, GreaterOrEqual, AnyBit}
use Rattle.bpfvm.specs.Validity.{fault_of}
use Rattle.bpfvm.specs.Machine.{Registers, with_value, Goes, effect, answer, holds}
use Rattle.filtergen_trim.specs.declared.unreached.TheConstants.{MAX_CODE}
use Rattle.filtergen_code.specs.declared.code.Exits.{Exits}
use Rattle.filtergen_code.specs.declared.code.Full.{Full}
use Rattle.filtergen_code.specs.declared.insns.Jump.{Jump}
use Rattle.filtergen_code.specs.declared.insns.Jump.TheVariants as jumps
use Rattle.filtergen_code.specs.declared.insns.Operand.{Operand}
use Rattle.filtergen_code.specs.declared.insns.Operand.TheVariants as operands
use Rattle.filtergen_code.specs.declared.insns.Field.{Field}
use Rattle.filtergen_code.specs.declared.insns.Field.TheVariants as fields
use Rattle.filter_meaning.specs.declared.verdict.Verdict.{Verdict}
use Rattle.filter_meaning.specs.declared.verdict.Verdict.TheVariants.{Yes, No, Abort}
use Rattle.filter_meaning.specs.Meaning.{Packet, HasBytes, Test, byte, half, word}

-- a place of the code, counted from its end, so that what is put in front moves no place
abbrev pub IsPlace : List Insn → ℕ → Type 0
IsPlace code place = (0 < place) × (place ≤ length code)

abbrev pub AreExits : List Insn → Exits → Type 0
AreExits code exits = IsPlace code exits.yes × IsPlace code exits.no

-- the code has room for `most` more instructions, which may go on at these exits
abbrev pub CanEmit : ℕ → Exits → List Insn → Type 0
CanEmit most exits code = (length code + most ≤ MAX_CODE) × AreExits code exits

-- all 16 cells of the scratch memory are there
abbrev pub HasCells : Registers → Type 0
HasCells r = length r.memory ≡ 16

-- the answer of the run from a place on
abbrev pub run_from : List Insn → ℕ → Packet → Registers → ℕ
run_from code place p r = answer code p.captured p.wire (length code - place) r

-- whatever the registers are, the run from the place has this answer
pub record Answers (code : List Insn) (place : ℕ) (p : Packet) (n : ℕ) : Type 0 where
  pub always : (r : Registers) → HasCells r → run_from code place p r ≡ n

-- new is old with at most `most` instructions put in front
pub record Extends (most : ℕ) (old new : List Insn) : Type 0 where
  pub longer : length old ≤ length new
  pub within : length new ≤ length old + most
  pub same : (place : ℕ) (p : Packet) (r : Registers) → place ≤ length old → run_from new place p r ≡ run_from old place p r

-- the answer of a run that goes on at an exit by the verdict, or ends
abbrev pub outcome : Verdict → ℕ → ℕ → ℕ
outcome Yes m n = m
outcome No m n = n
outcome Abort m n = 0

-- an instruction in front of the code goes on as from the place
pub record GoesOnAt (insn : Insn) (place : ℕ) (code : List Insn) : Type 0 where
  pub sound : fault_of (length code + 1) 0 insn ≡ None
  pub leads : (p : Packet) (r : Registers) → answer (insn ∷ code) p.captured p.wire 0 r ≡ run_from code place p r

-- a place in reach from which the run goes on as from the place, and which was there or stands at the front
pub record IsRelay (place reach near : ℕ) (old new : List Insn) : Type 0 where
  pub extends : Extends 1 old new
  pub here : IsPlace new near
  pub reached : length new - near ≤ reach
  pub kept : length old - place ≤ reach → new ≡ old
  pub stands : (new ≡ old) ⊎ (near ≡ length new)
  pub leads : (p : Packet) (r : Registers) → run_from new near p r ≡ run_from old place p r

-- a place from which a run in which the instruction would change nothing goes on as from the place
pub record Passes (insn : Insn) (place passed : ℕ) (code : List Insn) : Type 0 where
  pub here : IsPlace code passed
  pub leads : (p : Packet) (r : Registers) → effect p.captured p.wire insn r ≡ Goes 0 r → run_from code passed p r ≡ run_from code place p r

-- the front of new goes to the exits by a condition on the registers, which it leaves as they are
pub record Chooses (most : ℕ) (choice : Registers → Bool) (exits : Exits) (old new : List Insn) : Type 0 where
  pub extends : Extends most old new
  pub chooses : (p : Packet) (r : Registers)
      → answer new p.captured p.wire 0 r ≡ (if choice r then run_from old exits.yes p r else run_from old exits.no p r)

-- the front of new is such a choice with one instruction before it
pub record ChoosesAfter (most : ℕ) (insn : Insn) (choice : Registers → Bool) (exits : Exits) (entry : ℕ) (old new : List Insn) : Type 0 where
  pub rest : List Insn
  pub chosen : Chooses most choice exits old rest
  pub front : new ≡ insn ∷ rest
  pub here : entry ≡ length new

-- the comparison that a jump makes
abbrev pub comparison_of : Jump → Comparison
comparison_of jumps.Equal = Equal
comparison_of jumps.Greater = Greater
comparison_of jumps.GreaterOrEqual = GreaterOrEqual
comparison_of jumps.AnyBit = AnyBit

abbrev pub value_of : Operand → Registers → ℕ
value_of (operands.Constant k) r = k
value_of operands.Index r = r.index

-- whether the jump goes to its first exit
abbrev pub condition : Jump → Operand → Registers → Bool
condition jump operand r = holds (comparison_of jump) r.accumulator (value_of operand r)

-- the number of a field
abbrev pub field_of : Field → Packet → Option ℕ
field_of (fields.Byte o) p = byte o p
field_of (fields.Half o) p = half o p
field_of (fields.Word o) p = word o p
field_of fields.Length p = Some p.wire

-- what is tested once a number is in a register, and Abort where there is none
abbrev pub with_loaded : Register → Registers → Option ℕ → (Registers → Test) → Test
with_loaded to r None test p = Abort
with_loaded to r (Some n) test p = test (with_value to n r) p

-- whatever the registers are, or as long as X is what it was
abbrev pub any_registers : Registers → Registers → Type 0
any_registers r s = Unit {0}

abbrev pub same_index : Registers → Registers → Type 0
same_index r s = s.index ≡ r.index

-- with all registers that are so like these, the run from the place has this answer
abbrev pub LeadsLike : (Registers → Registers → Type 0) → List Insn → ℕ → Packet → Registers → ℕ → Type 0
LeadsLike like code place p r n = (s : Registers) → HasCells s → like r s → run_from code place p s ≡ n

-- from entry a run of new decides a test, which may look at the registers there, and goes to an exit with registers like these
pub record Follows (like : Registers → Registers → Type 0) (most : ℕ) (test : Registers → Test) (exits : Exits) (entry : ℕ) (old new : List Insn) : Type 0 where
  pub extends : Extends most old new
  pub here : IsPlace new entry
  pub follows : (p : Packet) (m n : ℕ) (r : Registers) → HasBytes p → HasCells r
      → LeadsLike like old exits.yes p r m → LeadsLike like old exits.no p r n → run_from new entry p r ≡ outcome (test r p) m n

-- from entry a run of new decides a test, whatever the registers are, and goes to an exit
pub record Decides (most : ℕ) (test : Test) (exits : Exits) (entry : ℕ) (old new : List Insn) : Type 0 where
  pub extends : Extends most old new
  pub here : IsPlace new entry
  pub decides : (p : Packet) (m n : ℕ) → HasBytes p → Answers old exits.yes p m → Answers old exits.no p n
      → Answers new entry p (outcome (test p) m n)

-- a call returns `Full` only if its code has no room
abbrev pub OrFull : {X : Type 0} → ℕ → List Insn → Result X Full → (X → Type 0) → Type 0
OrFull cost old result P = MatchResult result P (λ _. MAX_CODE < length old + cost)

-- a call emits a test that goes to the exits, and returns where it is entered
abbrev pub Emits : ℕ → Test → Exits → List Insn → List Insn → Result ℕ Full → Type 0
Emits cost test exits old new result = OrFull cost old result (λ entry. Decides cost test exits entry old new)

-- the answer of the run from the front on
abbrev pub front : List Insn → Packet → Registers → ℕ
front code p r = answer code p.captured p.wire 0 r

-- the front of new loads a number into a register, and goes on over old
pub record Loads (to : Register) (n : Packet → ℕ) (old new : List Insn) : Type 0 where
  pub extends : Extends 1 old new
  pub loads : (p : Packet) (r : Registers) → front new p r ≡ front old p (with_value to (n p) r)

-- the cells below a number are what they were
pub record Keeps (cell : ℕ) (r s : Registers) : Type 0 where
  pub cells : HasCells s
  pub same : (k : ℕ) → k < cell → slice_index s.memory k ≡ slice_index r.memory k

-- the run over new ends with 0 where there is no value, and else goes on over old with the value in the accumulator
abbrev pub Computed : Option ℕ → ℕ → Packet → Registers → List Insn → List Insn → Type 0
Computed None cell p r old new = front new p r ≡ 0
Computed (Some n) cell p r old new = (s : Registers) × (front new p r ≡ front old p s) × (s.accumulator ≡ n) × Keeps cell r s

pub record Computes (most : ℕ) (value : Packet → Option ℕ) (cell : ℕ) (old new : List Insn) : Type 0 where
  pub extends : Extends most old new
  pub computes : (p : Packet) (r : Registers) → HasCells r → Computed (value p) cell p r old new

-- the same of a value that is made of what is in the accumulator
pub record Applies (most : ℕ) (f : Packet → ℕ → Option ℕ) (old new : List Insn) : Type 0 where
  pub extends : Extends most old new
  pub applies : (p : Packet) (r : Registers) (cell : ℕ) → HasCells r → Computed (f p r.accumulator) cell p r old new

-- the same of two values, the second one in the index register
abbrev pub Paired : Option ℕ → Option ℕ → ℕ → Packet → Registers → List Insn → List Insn → Type 0
Paired None w cell p r old new = front new p r ≡ 0
Paired (Some m) None cell p r old new = front new p r ≡ 0
Paired (Some m) (Some n) cell p r old new =
    (s : Registers) × (front new p r ≡ front old p s) × (s.accumulator ≡ m) × (s.index ≡ n) × Keeps cell r s

pub record Pairs (most : ℕ) (v w : Packet → Option ℕ) (cell : ℕ) (old new : List Insn) : Type 0 where
  pub extends : Extends most old new
  pub pairs : (p : Packet) (r : Registers) → HasCells r → Paired (v p) (w p) cell p r old new
