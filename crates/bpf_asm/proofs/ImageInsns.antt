-- Each instruction of an image is read as itself: one entry for each code.
use Rattle.std.proofs.Common.{◌≡◌, ℕ, ◌+◌, ◌<◌, ◌≤◌, ◌^◌, Bool, true, false, ◌&&◌, List, [], ◌∷◌, ◌++◌, Option, Some, None, Ok, refl, sym, ap, subst, arith, le-leb, lt-ltb, ◌==◌, if◌then◌else◌}
use Rattle.std.specs.Prelude.{codes, nat_lt}
use Rattle.std.specs.List.{AllByRecursion}
use Rattle.std.proofs.lemmas.Bool.{eqb-true, ltb-true}
use Rattle.bpfvm.specs.declared.insn.Insn.{Insn}
use Rattle.bpfvm.specs.declared.fault.Invalid.{Invalid}
use Rattle.bpfvm.specs.Codes as bpf
use Rattle.bpfvm.specs.Codes.{operation_of}
use Rattle.bpfvm.specs.Images.{name_of, operands_text, column}
use Rattle.bpfvm.specs.Validity.{fault_unless, fault_in}
use Rattle.bpf_asm.specs.Types.{Token, Name, Instruction, Line}
use Rattle.bpf_asm.specs.Types.tokens
use Rattle.bpf_asm.specs.Types.names
use Rattle.bpf_asm.specs.Types.sizes
use Rattle.bpf_asm.specs.Types.targets
use Rattle.bpf_asm.specs.Types.instructions
use Rattle.bpf_asm.specs.Words.{keywords, keyword_of}
use Rattle.bpf_asm.specs.Instructions.{instruction_of}
use Rattle.bpf_asm.specs.Assembly.{place_distance, short, long, insn_of}
use Rattle.bpf_asm.specs.Laws.{cleared_as}
use Rattle.bpf_asm.proofs.Digits.{both_true}
use Rattle.bpf_asm.proofs.Spelled.{Spells, is_name, name_then}
use Rattle.bpf_asm.proofs.ImageOperands.{MAX, packet_text, indirect_text, cell_text, header_length_text, signed_literal_text, hexadecimal_literal_text, length_text, index_text, nothing_text, target_text, index_ways_text, literal_ways_text}

-- the text of an instruction at a place, of this operation, is read as that instruction
pub record IsReadAs (o : Option bpf.Operation) (place : ℕ) (i : Insn) : Type 0 where
  pub name : Name
  pub args : List Token
  pub instruction : Instruction
  pub spells : Spells (column 8 (name_of o) ++ codes " " ++ operands_text o (place + 1) i) (tokens.Name name ∷ args) 106
  pub reads : instruction_of name args ≡ Some instruction
  pub leads : (so_far rest : List Line) → insn_of instruction place so_far rest ≡ Ok (cleared_as o i)

-- wherever instructions of this code stand, which nothing is wrong with
abbrev pub AreRead : ℕ → Option bpf.Operation → Type 0
AreRead code o =
    (jt jf k size place : ℕ) → jt < 2 ^ 8 → jf < 2 ^ 8 → k < 2 ^ 32 → size ≤ 512
    → fault_in o size place (record { code = code; jt = jt; jf = jf; k = k }) ≡ None → IsReadAs o place (record { code = code; jt = jt; jf = jf; k = k })

-- ---- Entries

-- a name in its column, and the operand after it
entry : (o : Option bpf.Operation) (place : ℕ) (i : Insn) (name : Name) {args : List Token} (instruction : Instruction) → is_name (name_of o) ≡ true → keyword_of (name_of o) ≡ Some (tokens.Name name) → Spells (operands_text o (place + 1) i) args MAX
    → instruction_of name args ≡ Some instruction → ((so_far rest : List Line) → insn_of instruction place so_far rest ≡ Ok (cleared_as o i)) → IsReadAs o place i
entry o place i name {args} instruction is word operand reads leads = record {
  name = name;
  args = args;
  instruction = instruction;
  spells = name_then (name_of o) (tokens.Name name) is word operand;
  reads = reads;
  leads = leads;
}

-- of instructions that don't jump
module _ (code : ℕ) (o : bpf.Operation) (name : Name) (is : is_name (name_of (Some o)) ≡ true) (word : keyword_of (name_of (Some o)) ≡ Some (tokens.Name name)) where
  -- with an operand
  with_k : (args : ℕ → List Token) → ((next jt jf k : ℕ) → k < 2 ^ 32 → Spells (operands_text (Some o) next (record { code = code; jt = jt; jf = jf; k = k })) (args k) MAX)
      → ((k : ℕ) → instruction_of name (args k) ≡ Some (instructions.Plain code k))
      → ((jt jf k : ℕ) → cleared_as (Some o) (record { code = code; jt = jt; jf = jf; k = k }) ≡ record { code = code; jt = 0; jf = 0; k = k }) → AreRead code (Some o)
  with_k args operand reads clears jt jf k size place jt_fits jf_fits k_fits few sound =
      entry (Some o) place (record { code = code; jt = jt; jf = jf; k = k }) name (instructions.Plain code k) is word (operand (place + 1) jt jf k k_fits) (reads k) (λ so_far rest. ap Ok (sym (clears jt jf k)))

  -- with none that is a number
  without_k : (args : List Token) → ((next jt jf k : ℕ) → Spells (operands_text (Some o) next (record { code = code; jt = jt; jf = jf; k = k })) args MAX)
      → instruction_of name args ≡ Some (instructions.Plain code 0)
      → ((jt jf k : ℕ) → cleared_as (Some o) (record { code = code; jt = jt; jf = jf; k = k }) ≡ record { code = code; jt = 0; jf = 0; k = 0 }) → AreRead code (Some o)
  without_k args operand reads clears jt jf k size place jt_fits jf_fits k_fits few sound =
      entry (Some o) place (record { code = code; jt = jt; jf = jf; k = k }) name (instructions.Plain code 0) is word (operand (place + 1) jt jf k) reads (λ so_far rest. ap Ok (sym (clears jt jf k)))

-- ---- Jumps

unless_none : (fine : Bool) (fault : Invalid) → fault_unless fine fault ≡ None → fine ≡ true
unless_none true fault sound = refl
unless_none false fault sound = absurd cc

-- how far it is to the place that a jump names
distance_is : (place n : ℕ) → place_distance (place + 1 + n) place ≡ Ok n
distance_is place n = rw (lt-ltb place (place + 1 + n) (omega arith)) (ap Ok (omega arith))

short_is : (n : ℕ) → n < 2 ^ 8 → short n ≡ Ok n
short_is n small = rw (le-leb n 255 (omega arith)) refl

long_is : (n : ℕ) → n < 2 ^ 32 → long n ≡ Ok n
long_is n small = rw (le-leb n 4294967295 (omega arith)) refl

jump_is : (place k : ℕ) (so_far rest : List Line) → k < 2 ^ 32 → insn_of (instructions.Jump (targets.Place (place + 1 + k))) place so_far rest ≡ Ok (record { code = 0x05; jt = 0; jf = 0; k = k })
jump_is place k so_far rest small = rw (distance_is place k, long_is k small) refl

branch_is : (code k place jt jf : ℕ) (so_far rest : List Line) → jt < 2 ^ 8 → jf < 2 ^ 8
    → insn_of (instructions.Branch code k (targets.Place (place + 1 + jt)) (targets.Place (place + 1 + jf))) place so_far rest ≡ Ok (record { code = code; jt = jt; jf = jf; k = k })
branch_is code k place jt jf so_far rest jt_fits jf_fits = rw (distance_is place jt, short_is jt jt_fits, distance_is place jf, short_is jf jf_fits) refl

jumps : AreRead 0x05 (Some bpf.Jump)
unfolding keywords
jumps jt jf k size place jt_fits jf_fits k_fits few sound =
    let inside = ltb-true (place + 1 + k) size (unless_none (nat_lt (place + 1 + k) size) _ sound) in
    entry (Some bpf.Jump) place (record { code = 0x05; jt = jt; jf = jf; k = k }) names.Jump (instructions.Jump (targets.Place (place + 1 + k))) refl refl (target_text (place + 1 + k) (omega arith)) refl (λ so_far rest. jump_is place k so_far rest k_fits)

-- both places of a conditional jump are few
module _ (test : bpf.Comparison) (constant index : ℕ) (is : is_name (name_of (Some (bpf.Branch test bpf.Constant))) ≡ true) (word : keyword_of (name_of (Some (bpf.Branch test bpf.Constant))) ≡ Some (tokens.Name (names.JumpIf constant index))) where
  tests : AreRead constant (Some (bpf.Branch test bpf.Constant))
  tests jt jf k size place jt_fits jf_fits k_fits few sound =
      let inside = both_true (nat_lt (place + 1 + jt) size) (nat_lt (place + 1 + jf) size) (unless_none (nat_lt (place + 1 + jt) size && nat_lt (place + 1 + jf) size) _ sound) in
      let first = ltb-true (place + 1 + jt) size inside.0 in
      let second = ltb-true (place + 1 + jf) size inside.1 in
      entry (Some (bpf.Branch test bpf.Constant)) place (record { code = constant; jt = jt; jf = jf; k = k }) (names.JumpIf constant index)
      (instructions.Branch constant k (targets.Place (place + 1 + jt)) (targets.Place (place + 1 + jf))) is word
      (literal_ways_text (place + 1 + jt) (place + 1 + jf) (omega arith) (omega arith) k k_fits) refl (λ so_far rest. branch_is constant k place jt jf so_far rest jt_fits jf_fits)

  tests_index : AreRead index (Some (bpf.Branch test bpf.InIndex))
  tests_index jt jf k size place jt_fits jf_fits k_fits few sound =
      let inside = both_true (nat_lt (place + 1 + jt) size) (nat_lt (place + 1 + jf) size) (unless_none (nat_lt (place + 1 + jt) size && nat_lt (place + 1 + jf) size) _ sound) in
      let first = ltb-true (place + 1 + jt) size inside.0 in
      let second = ltb-true (place + 1 + jf) size inside.1 in
      entry (Some (bpf.Branch test bpf.InIndex)) place (record { code = index; jt = jt; jf = jf; k = k }) (names.JumpIf constant index)
      (instructions.Branch index 0 (targets.Place (place + 1 + jt)) (targets.Place (place + 1 + jf))) is word
      (index_ways_text (place + 1 + jt) (place + 1 + jf) (omega arith) (omega arith)) refl (λ so_far rest. branch_is index 0 place jt jf so_far rest jt_fits jf_fits)

-- ---- Forms

-- `ld [12]`, by how many bytes are loaded
module _ (code size : ℕ) (name : Name) (is : is_name (name_of (Some (bpf.LoadAbsolute size))) ≡ true) (word : keyword_of (name_of (Some (bpf.LoadAbsolute size))) ≡ Some (tokens.Name name)) where
  packets : ((k : ℕ) → instruction_of name (tokens.OpenBracket ∷ tokens.Number k ∷ tokens.CloseBracket ∷ []) ≡ Some (instructions.Plain code k)) → AreRead code (Some (bpf.LoadAbsolute size))
  packets reads = with_k code (bpf.LoadAbsolute size) name is word (λ k. tokens.OpenBracket ∷ tokens.Number k ∷ tokens.CloseBracket ∷ []) (λ next jt jf k small. packet_text k small) reads (λ jt jf k. refl)

  -- and `ld [x + 12]`
  indirects : ((k : ℕ) → instruction_of name (tokens.OpenBracket ∷ tokens.Index ∷ tokens.Plus ∷ tokens.Number k ∷ tokens.CloseBracket ∷ []) ≡ Some (instructions.Plain code k)) → AreRead code (Some (bpf.LoadIndirect size))
  indirects reads = with_k code (bpf.LoadIndirect size) name is word (λ k. tokens.OpenBracket ∷ tokens.Index ∷ tokens.Plus ∷ tokens.Number k ∷ tokens.CloseBracket ∷ []) (λ next jt jf k small. indirect_text k small) reads (λ jt jf k. refl)

-- `add #12` and `and #0xc`, by which numbers are bits; and `add x`
module _ (how : bpf.Arithmetic) (constant index : ℕ) (is : is_name (name_of (Some (bpf.Calculate how bpf.Constant))) ≡ true) (word : keyword_of (name_of (Some (bpf.Calculate how bpf.Constant))) ≡ Some (tokens.Name (names.Calculate constant index))) where
  sums : ((next jt jf k : ℕ) → k < 2 ^ 32 → Spells (operands_text (Some (bpf.Calculate how bpf.Constant)) next (record { code = constant; jt = jt; jf = jf; k = k })) (tokens.Hash ∷ tokens.Number k ∷ []) MAX) → AreRead constant (Some (bpf.Calculate how bpf.Constant))
  sums operand = with_k constant (bpf.Calculate how bpf.Constant) (names.Calculate constant index) is word (λ k. tokens.Hash ∷ tokens.Number k ∷ []) operand (λ k. refl) (λ jt jf k. refl)

  sums_index : AreRead index (Some (bpf.Calculate how bpf.InIndex))
  sums_index = without_k index (bpf.Calculate how bpf.InIndex) (names.Calculate constant index) is word (tokens.Index ∷ []) (λ next jt jf k. index_text) refl (λ jt jf k. refl)

-- `ld #0xc`, `ld M[3]`, `ld #pktlen`, into either register
module _ (code : ℕ) (to : bpf.Register) (name : Name) (is : is_name (name_of (Some (bpf.LoadImmediate to))) ≡ true) (word : keyword_of (name_of (Some (bpf.LoadImmediate to))) ≡ Some (tokens.Name name)) where
  constants : ((k : ℕ) → instruction_of name (tokens.Hash ∷ tokens.Number k ∷ []) ≡ Some (instructions.Plain code k)) → AreRead code (Some (bpf.LoadImmediate to))
  constants reads = with_k code (bpf.LoadImmediate to) name is word (λ k. tokens.Hash ∷ tokens.Number k ∷ []) (λ next jt jf k small. hexadecimal_literal_text k small) reads (λ jt jf k. refl)

  cells : ((k : ℕ) → instruction_of name (tokens.Memory ∷ tokens.OpenBracket ∷ tokens.Number k ∷ tokens.CloseBracket ∷ []) ≡ Some (instructions.Plain code k)) → AreRead code (Some (bpf.LoadMemory to))
  cells reads = with_k code (bpf.LoadMemory to) name is word (λ k. tokens.Memory ∷ tokens.OpenBracket ∷ tokens.Number k ∷ tokens.CloseBracket ∷ []) (λ next jt jf k small. cell_text k small) reads (λ jt jf k. refl)

  lengths : instruction_of name (tokens.Hash ∷ tokens.Length ∷ []) ≡ Some (instructions.Plain code 0) → AreRead code (Some (bpf.LoadLength to))
  lengths reads = without_k code (bpf.LoadLength to) name is word (tokens.Hash ∷ tokens.Length ∷ []) (λ next jt jf k. length_text) reads (λ jt jf k. refl)

-- `st M[3]`, of either register
stores : (code : ℕ) (from : bpf.Register) (name : Name) → is_name (name_of (Some (bpf.Store from))) ≡ true → keyword_of (name_of (Some (bpf.Store from))) ≡ Some (tokens.Name name)
    → ((k : ℕ) → instruction_of name (tokens.Memory ∷ tokens.OpenBracket ∷ tokens.Number k ∷ tokens.CloseBracket ∷ []) ≡ Some (instructions.Plain code k)) → AreRead code (Some (bpf.Store from))
stores code from name is word reads = with_k code (bpf.Store from) name is word (λ k. tokens.Memory ∷ tokens.OpenBracket ∷ tokens.Number k ∷ tokens.CloseBracket ∷ []) (λ next jt jf k small. cell_text k small) reads (λ jt jf k. refl)

-- `neg`, `tax`, `txa`, `ret`
alone : (code : ℕ) (o : bpf.Operation) (name : Name) → is_name (name_of (Some o)) ≡ true → keyword_of (name_of (Some o)) ≡ Some (tokens.Name name) → ((next jt jf k : ℕ) → Spells (operands_text (Some o) next (record { code = code; jt = jt; jf = jf; k = k })) [] MAX)
    → instruction_of name [] ≡ Some (instructions.Plain code 0) → ((jt jf k : ℕ) → cleared_as (Some o) (record { code = code; jt = jt; jf = jf; k = k }) ≡ record { code = code; jt = 0; jf = 0; k = 0 }) → AreRead code (Some o)
alone code o name is word operand reads clears = without_k code o name is word [] operand reads clears

-- `ldxb 4*([14]&0xf)`
header_lengths : AreRead 0xb1 (Some bpf.LoadHeaderLength)
unfolding keywords
header_lengths =
    with_k 0xb1 bpf.LoadHeaderLength names.LoadHeaderLength refl refl
    (λ k. tokens.Number 4 ∷ tokens.Times ∷ tokens.Open ∷ tokens.OpenBracket ∷ tokens.Number k ∷ tokens.CloseBracket ∷ tokens.And ∷ tokens.Number 15 ∷ tokens.Close ∷ [])
    (λ next jt jf k small. header_length_text k small) (λ k. refl) (λ jt jf k. refl)

-- `ret #12`
returns_constant : AreRead 0x06 (Some bpf.ReturnConstant)
unfolding keywords
returns_constant = with_k 0x06 bpf.ReturnConstant names.Return refl refl (λ k. tokens.Hash ∷ tokens.Number k ∷ []) (λ next jt jf k small. signed_literal_text k small) (λ k. refl) (λ jt jf k. refl)

-- ---- The table

-- in the order of the table of codes
all_read : AllByRecursion (λ entry. AreRead entry.0 (Some entry.1)) bpf.codes
unfolding keywords
all_read = (
  packets 0x20 4 (names.Load sizes.Word) refl refl (λ k. refl),
  (
    packets 0x28 2 (names.Load sizes.Half) refl refl (λ k. refl),
    (
      packets 0x30 1 (names.Load sizes.Byte) refl refl (λ k. refl),
      (
        indirects 0x40 4 (names.Load sizes.Word) refl refl (λ k. refl),
        (
          indirects 0x48 2 (names.Load sizes.Half) refl refl (λ k. refl),
          (
            indirects 0x50 1 (names.Load sizes.Byte) refl refl (λ k. refl),
            (
              constants 0x00 bpf.Accumulator (names.Load sizes.Word) refl refl (λ k. refl),
              (
                constants 0x01 bpf.Index names.LoadIndex refl refl (λ k. refl),
                (
                  cells 0x60 bpf.Accumulator (names.Load sizes.Word) refl refl (λ k. refl),
                  (
                    cells 0x61 bpf.Index names.LoadIndex refl refl (λ k. refl),
                    (
                      lengths 0x80 bpf.Accumulator (names.Load sizes.Word) refl refl refl,
                      (
                        lengths 0x81 bpf.Index names.LoadIndex refl refl refl,
                        (
                          header_lengths,
                          (
                            stores 0x02 bpf.Accumulator names.Store refl refl (λ k. refl),
                            (
                              stores 0x03 bpf.Index names.StoreIndex refl refl (λ k. refl),
                              (
                                sums bpf.Add 0x04 0x0c refl refl (λ next jt jf k small. signed_literal_text k small),
                                (
                                  sums_index bpf.Add 0x04 0x0c refl refl,
                                  (
                                    sums bpf.Subtract 0x14 0x1c refl refl (λ next jt jf k small. signed_literal_text k small),
                                    (
                                      sums_index bpf.Subtract 0x14 0x1c refl refl,
                                      (
                                        sums bpf.Multiply 0x24 0x2c refl refl (λ next jt jf k small. signed_literal_text k small),
                                        (
                                          sums_index bpf.Multiply 0x24 0x2c refl refl,
                                          (
                                            sums bpf.Divide 0x34 0x3c refl refl (λ next jt jf k small. signed_literal_text k small),
                                            (
                                              sums_index bpf.Divide 0x34 0x3c refl refl,
                                              (
                                                sums bpf.Or 0x44 0x4c refl refl (λ next jt jf k small. hexadecimal_literal_text k small),
                                                (
                                                  sums_index bpf.Or 0x44 0x4c refl refl,
                                                  (
                                                    sums bpf.And 0x54 0x5c refl refl (λ next jt jf k small. hexadecimal_literal_text k small),
                                                    (
                                                      sums_index bpf.And 0x54 0x5c refl refl,
                                                      (
                                                        sums bpf.ShiftLeft 0x64 0x6c refl refl (λ next jt jf k small. signed_literal_text k small),
                                                        (
                                                          sums_index bpf.ShiftLeft 0x64 0x6c refl refl,
                                                          (
                                                            sums bpf.ShiftRight 0x74 0x7c refl refl (λ next jt jf k small. signed_literal_text k small),
                                                            (
                                                              sums_index bpf.ShiftRight 0x74 0x7c refl refl,
                                                              (
                                                                sums bpf.Modulo 0x94 0x9c refl refl (λ next jt jf k small. signed_literal_text k small),
                                                                (
                                                                  sums_index bpf.Modulo 0x94 0x9c refl refl,
                                                                  (
                                                                    sums bpf.ExclusiveOr 0xa4 0xac refl refl (λ next jt jf k small. hexadecimal_literal_text k small),
                                                                    (
                                                                      sums_index bpf.ExclusiveOr 0xa4 0xac refl refl,
                                                                      (
                                                                        alone 0x84 bpf.Negate names.Negate refl refl (λ next jt jf k. nothing_text) refl (λ jt jf k. refl),
                                                                        (
                                                                          jumps,
                                                                          (
                                                                            tests bpf.Equal 0x15 0x1d refl refl,
                                                                            (
                                                                              tests_index bpf.Equal 0x15 0x1d refl refl,
                                                                              (
                                                                                tests bpf.Greater 0x25 0x2d refl refl,
                                                                                (
                                                                                  tests_index bpf.Greater 0x25 0x2d refl refl,
                                                                                  (
                                                                                    tests bpf.GreaterOrEqual 0x35 0x3d refl refl,
                                                                                    (
                                                                                      tests_index bpf.GreaterOrEqual 0x35 0x3d refl refl,
                                                                                      (
                                                                                        tests bpf.AnyBit 0x45 0x4d refl refl,
                                                                                        (
                                                                                          tests_index bpf.AnyBit 0x45 0x4d refl refl,
                                                                                          (
                                                                                            returns_constant,
                                                                                            (
                                                                                              alone 0x16 bpf.ReturnAccumulator names.Return refl refl (λ next jt jf k. nothing_text) refl (λ jt jf k. refl),
                                                                                              (
                                                                                                alone 0x07 (bpf.Transfer bpf.Index) names.ToIndex refl refl (λ next jt jf k. nothing_text) refl (λ jt jf k. refl),
                                                                                                (alone 0x87 (bpf.Transfer bpf.Accumulator) names.ToAccumulator refl refl (λ next jt jf k. nothing_text) refl (λ jt jf k. refl), tt),
                                                                                              ),
                                                                                            ),
                                                                                          ),
                                                                                        ),
                                                                                      ),
                                                                                    ),
                                                                                  ),
                                                                                ),
                                                                              ),
                                                                            ),
                                                                          ),
                                                                        ),
                                                                      ),
                                                                    ),
                                                                  ),
                                                                ),
                                                              ),
                                                            ),
                                                          ),
                                                        ),
                                                      ),
                                                    ),
                                                  ),
                                                ),
                                              ),
                                            ),
                                          ),
                                        ),
                                      ),
                                    ),
                                  ),
                                ),
                              ),
                            ),
                          ),
                        ),
                      ),
                    ),
                  ),
                ),
              ),
            ),
          ),
        ),
      ),
    ),
  ),
)

-- what holds of each entry of a table holds of each code
by_table : (P : ℕ → Option bpf.Operation → Type 0) (table : List (ℕ × bpf.Operation)) → AllByRecursion (λ entry. P entry.0 (Some entry.1)) table → ((code : ℕ) → P code None) → (code : ℕ) → P code (bpf.operation_in table code)
by_table P [] each none code = none code
by_table P (entry ∷ table) each none code = at_test (code == entry.0) refl (by_table P table each.1 none code)
  where
    at_test : (b : Bool) → (code == entry.0) ≡ b → P code (bpf.operation_in table code) → P code (if b then Some entry.1 else bpf.operation_in table code)
    at_test true same later = subst (λ c. P c (Some entry.1)) (sym (eqb-true code entry.0 same)) each.0
    at_test false other later = later

-- of no code is an instruction sound
none_read : (code : ℕ) → AreRead code None
none_read code jt jf k size place jt_fits jf_fits k_fits few sound = absurd cc

-- an instruction of a program is read as itself, wherever it stands
pub is_read : (code : ℕ) → AreRead code (bpf.operation_of code)
unfolding operation_of
is_read = by_table AreRead bpf.codes all_read none_read
