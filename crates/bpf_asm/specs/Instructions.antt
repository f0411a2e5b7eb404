-- Instructions: which forms of operands each takes, with which code, and where its jumps lead.
use Rattle.std.specs.Prelude.{ℕ, List, [], ◌∷◌, Option, Some, None}
use Rattle.bpf_asm.specs.Types.{Token, Name, Size, Operand, Target, Instruction}
use Rattle.bpf_asm.specs.Types.tokens
use Rattle.bpf_asm.specs.Types.names
use Rattle.bpf_asm.specs.Types.sizes
use Rattle.bpf_asm.specs.Types.operands
use Rattle.bpf_asm.specs.Types.targets
use Rattle.bpf_asm.specs.Types.instructions
use Rattle.bpf_asm.specs.Operands.{◌>>=◌, operand_at}

-- ---- Codes

-- a code and its operand k
abbrev pub Coded : Type 0
Coded = Option (ℕ × ℕ)

abbrev pub literal_code : ℕ → Operand → Coded
literal_code code (operands.Literal k) = Some (code, k)
literal_code code other = None

abbrev pub cell_code : ℕ → Operand → Coded
cell_code code (operands.Cell k) = Some (code, k)
cell_code code other = None

abbrev pub bare_code : ℕ → Operand → Coded
bare_code code operands.Nothing = Some (code, 0)
bare_code code other = None

-- ld: a word of the packet, a constant, a cell, the length on the wire
abbrev pub load_word_code : Operand → Coded
load_word_code (operands.Packet k) = Some (0x20, k)
load_word_code (operands.PacketAtIndex k) = Some (0x40, k)
load_word_code (operands.Literal k) = Some (0x00, k)
load_word_code (operands.Cell k) = Some (0x60, k)
load_word_code operands.Length = Some (0x80, 0)
load_word_code other = None

-- ldh and ldb: bytes of the packet
abbrev pub load_bytes_code : (direct indirect : ℕ) → Operand → Coded
load_bytes_code direct indirect (operands.Packet k) = Some (direct, k)
load_bytes_code direct indirect (operands.PacketAtIndex k) = Some (indirect, k)
load_bytes_code direct indirect other = None

abbrev pub load_code : Size → Operand → Coded
load_code sizes.Word operand = load_word_code operand
load_code sizes.Half operand = load_bytes_code 0x28 0x48 operand
load_code sizes.Byte operand = load_bytes_code 0x30 0x50 operand

-- ldx: a constant, a cell, the length on the wire, the length of an IPv4 header
abbrev pub load_index_code : Operand → Coded
load_index_code (operands.Literal k) = Some (0x01, k)
load_index_code (operands.Cell k) = Some (0x61, k)
load_index_code operands.Length = Some (0x81, 0)
load_index_code (operands.HeaderLength k) = Some (0xb1, k)
load_index_code other = None

-- ldxb: the length of an IPv4 header
abbrev pub header_length_code : Operand → Coded
header_length_code (operands.HeaderLength k) = Some (0xb1, k)
header_length_code other = None

-- ret: a constant, or the accumulator, which need not be written
abbrev pub return_code : Operand → Coded
return_code (operands.Literal k) = Some (0x06, k)
return_code operands.Accumulator = Some (0x16, 0)
return_code operands.Nothing = Some (0x16, 0)
return_code other = None

-- arithmetic and tests: a constant, or the index register
abbrev pub pair_code : (constant index : ℕ) → Operand → Coded
pair_code constant index (operands.Literal k) = Some (constant, k)
pair_code constant index operands.Index = Some (index, 0)
pair_code constant index other = None

-- the code of an instruction that does not jump, with an operand that it takes
abbrev pub code_of : Name → Operand → Coded
code_of (names.Load size) operand = load_code size operand
code_of names.LoadImmediate operand = literal_code 0x00 operand
code_of names.LoadIndex operand = load_index_code operand
code_of names.LoadIndexImmediate operand = literal_code 0x01 operand
code_of names.LoadHeaderLength operand = header_length_code operand
code_of names.Store operand = cell_code 0x02 operand
code_of names.StoreIndex operand = cell_code 0x03 operand
code_of (names.Calculate constant index) operand = pair_code constant index operand
code_of names.Negate operand = bare_code 0x84 operand
code_of names.ToIndex operand = bare_code 0x07 operand
code_of names.ToAccumulator operand = bare_code 0x87 operand
code_of names.Return operand = return_code operand
code_of other operand = None

-- ---- Targets

-- the line ends here
abbrev pub end_of : List Token → Option (Unit {0})
end_of [] = Some tt
end_of rest = None

-- a label, or a place as an image has it
abbrev pub target_at : List Token → Option (Target × List Token)
target_at (tokens.Label label ∷ rest) = Some (targets.Label label, rest)
target_at (tokens.Number place ∷ rest) = Some (targets.Place place, rest)
target_at rest = None

abbrev pub last_target : List Token → Option Target
last_target text = target_at text >>= λ target. end_of target.1 >>= λ end. Some target.0

-- the way after the first, which is the next instruction where none is written
abbrev pub second_way : List Token → Option Target
second_way [] = Some targets.Next
second_way (tokens.Comma ∷ rest) = last_target rest
second_way rest = None

abbrev pub labelled_ways : List Token → Option (Target × Target)
labelled_ways text = target_at text >>= λ first. second_way first.1 >>= λ second. Some (first.0, second)

abbrev pub where_false_at : List Token → Option (List Token)
where_false_at (tokens.WhereFalse ∷ rest) = Some rest
where_false_at rest = None

abbrev pub placed_ways : List Token → Option (Target × Target)
placed_ways text =
    target_at text >>= λ first. where_false_at first.1 >>= λ rest. last_target rest >>= λ second. Some (first.0, second)

-- `, L` or `, L, L`, or `jt L jf L` as in an image
abbrev pub ways_at : List Token → Option (Target × Target)
ways_at (tokens.Comma ∷ rest) = labelled_ways rest
ways_at (tokens.WhereTrue ∷ rest) = placed_ways rest
ways_at rest = None

-- ---- Instructions, from what follows the name on its line

abbrev pub plain_at : Name → List Token → Option Instruction
plain_at name text =
    operand_at text >>= λ operand. end_of operand.1 >>= λ end. code_of name operand.0 >>= λ coded.
    Some (instructions.Plain coded.0 coded.1)

abbrev pub jump_at : List Token → Option Instruction
jump_at text = last_target text >>= λ target. Some (instructions.Jump target)

-- the code and the operand of a conditional jump, and both ways as they are written
abbrev pub branch_at : (constant index : ℕ) → List Token → Option (ℕ × ℕ × Target × Target)
branch_at constant index text =
    operand_at text >>= λ operand. pair_code constant index operand.0 >>= λ coded. ways_at operand.1 >>= λ ways.
    Some (coded.0, coded.1, ways.0, ways.1)

-- jeq, jgt, jge, jset: the first way is taken where the test holds
abbrev pub branch_if : (constant index : ℕ) → List Token → Option Instruction
branch_if constant index text = branch_at constant index text >>= λ b. Some (instructions.Branch b.0 b.1 b.2 b.3)

-- jne, jneq, jle, jlt: the first way is taken where the test fails
abbrev pub branch_unless : (constant index : ℕ) → List Token → Option Instruction
branch_unless constant index text = branch_at constant index text >>= λ b. Some (instructions.Branch b.0 b.1 b.3 b.2)

abbrev pub instruction_of : Name → List Token → Option Instruction
instruction_of names.Jump text = jump_at text
instruction_of (names.JumpIf constant index) text = branch_if constant index text
instruction_of (names.JumpUnless constant index) text = branch_unless constant index text
instruction_of name text = plain_at name text
