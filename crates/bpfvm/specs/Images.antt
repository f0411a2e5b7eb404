-- Programs by the names of their instructions, as libpcap's bpf_image writes them for `tcpdump -d`.
use Rattle.std.specs.Prelude.{ℕ, suc, false, ◌+◌, ◌-◌, ◌^◌, ◌==◌, List, [], ◌∷◌, ◌++◌, length, replicate, Option, Some, None, nat_lt, if◌then◌else◌, codes}
use Rattle.std.specs.Fmt.{decimal, digits}
use Rattle.bpfvm.specs.declared.insn.Insn.{Insn}
use Rattle.bpfvm.specs.Codes.{Register, Accumulator, Index, Constant, InIndex, Arithmetic, Add, Subtract, Multiply, Divide, Or, And, ShiftLeft, ShiftRight, Modulo, ExclusiveOr, Comparison, Equal, Greater, GreaterOrEqual, AnyBit, Operation, LoadAbsolute, LoadIndirect, LoadImmediate, LoadMemory, LoadLength, LoadHeaderLength, Store, Calculate, Negate, Jump, Branch, ReturnConstant, ReturnAccumulator, Transfer, operation_of}

-- ---- Names

-- by how many bytes are loaded
abbrev pub load_name : ℕ → List ℕ
load_name size = if size == 4 then codes "ld" else (if size == 2 then codes "ldh" else codes "ldb")

abbrev pub load_to_name : Register → List ℕ
load_to_name Accumulator = codes "ld"
load_to_name Index = codes "ldx"

abbrev pub store_name : Register → List ℕ
store_name Accumulator = codes "st"
store_name Index = codes "stx"

abbrev pub transfer_name : (to : Register) → List ℕ
transfer_name Index = codes "tax"
transfer_name Accumulator = codes "txa"

abbrev pub arithmetic_name : Arithmetic → List ℕ
arithmetic_name Add = codes "add"
arithmetic_name Subtract = codes "sub"
arithmetic_name Multiply = codes "mul"
arithmetic_name Divide = codes "div"
arithmetic_name Or = codes "or"
arithmetic_name And = codes "and"
arithmetic_name ShiftLeft = codes "lsh"
arithmetic_name ShiftRight = codes "rsh"
arithmetic_name Modulo = codes "mod"
arithmetic_name ExclusiveOr = codes "xor"

abbrev pub comparison_name : Comparison → List ℕ
comparison_name Equal = codes "jeq"
comparison_name Greater = codes "jgt"
comparison_name GreaterOrEqual = codes "jge"
comparison_name AnyBit = codes "jset"

-- the name of an operation, or of a code that is not known
abbrev pub name_of : Option Operation → List ℕ
name_of None = codes "unimp"
name_of (Some (LoadAbsolute size)) = load_name size
name_of (Some (LoadIndirect size)) = load_name size
name_of (Some (LoadImmediate to)) = load_to_name to
name_of (Some (LoadMemory to)) = load_to_name to
name_of (Some (LoadLength to)) = load_to_name to
name_of (Some LoadHeaderLength) = codes "ldxb"
name_of (Some (Store from)) = store_name from
name_of (Some (Calculate how v)) = arithmetic_name how
name_of (Some Negate) = codes "neg"
name_of (Some Jump) = codes "ja"
name_of (Some (Branch test v)) = comparison_name test
name_of (Some ReturnConstant) = codes "ret"
name_of (Some ReturnAccumulator) = codes "ret"
name_of (Some (Transfer to)) = transfer_name to

-- ---- Operands

-- k as C's `%d` prints it, in two's complement
abbrev pub signed : ℕ → List ℕ
signed k = if nat_lt k (2 ^ 31) then decimal k else codes "-" ++ decimal (2 ^ 32 - k)

-- and as `0x%x` does
abbrev pub hexadecimal : ℕ → List ℕ
hexadecimal k = codes "0x" ++ digits 16 false k

-- what arithmetic takes besides A: bits are hexadecimal
abbrev pub constant_text : Arithmetic → ℕ → List ℕ
constant_text Or k = codes "#" ++ hexadecimal k
constant_text And k = codes "#" ++ hexadecimal k
constant_text ExclusiveOr k = codes "#" ++ hexadecimal k
constant_text other k = codes "#" ++ signed k

-- The text after the name, if the next instruction has this place: a jump names the place that it leads to.
abbrev pub operand_text : Option Operation → (next : ℕ) → Insn → List ℕ
operand_text None next i = hexadecimal i.code
operand_text (Some (LoadAbsolute size)) next i = codes "[" ++ signed i.k ++ codes "]"
operand_text (Some (LoadIndirect size)) next i = codes "[x + " ++ signed i.k ++ codes "]"
operand_text (Some (LoadImmediate to)) next i = codes "#" ++ hexadecimal i.k
operand_text (Some (LoadMemory to)) next i = codes "M[" ++ signed i.k ++ codes "]"
operand_text (Some (LoadLength to)) next i = codes "#pktlen"
operand_text (Some LoadHeaderLength) next i = codes "4*([" ++ signed i.k ++ codes "]&0xf)"
operand_text (Some (Store from)) next i = codes "M[" ++ signed i.k ++ codes "]"
operand_text (Some (Calculate how Constant)) next i = constant_text how i.k
operand_text (Some (Calculate how InIndex)) next i = codes "x"
operand_text (Some Negate) next i = []
operand_text (Some Jump) next i = decimal (next + i.k)
operand_text (Some (Branch test Constant)) next i = codes "#" ++ hexadecimal i.k
operand_text (Some (Branch test InIndex)) next i = codes "x"
operand_text (Some ReturnConstant) next i = codes "#" ++ signed i.k
operand_text (Some ReturnAccumulator) next i = []
operand_text (Some (Transfer to)) next i = []

-- ---- Instructions

-- a text, padded with spaces to a width, as C's `%-8s` does
abbrev pub column : (width : ℕ) → List ℕ → List ℕ
column width text = text ++ replicate (width - length text) 32

-- both places where a conditional jump goes on
abbrev pub ways : (next : ℕ) → Insn → List ℕ
ways next i = codes " jt " ++ (decimal (next + i.jt) ++ ((9 ∷ codes "jf ") ++ decimal (next + i.jf)))

-- the operand, of a conditional jump in a column and with these
abbrev pub operands_text : Option Operation → (next : ℕ) → Insn → List ℕ
operands_text (Some (Branch test v)) next i = column 16 (operand_text (Some (Branch test v)) next i) ++ ways next i
operands_text other next i = operand_text other next i

-- an instruction, where the next one has this place
unfoldable pub insn_text : (next : ℕ) → Insn → List ℕ
insn_text next i = column 8 (name_of (operation_of i.code)) ++ codes " " ++ operands_text (operation_of i.code) next i

-- a text with a space before it, if there is any
abbrev pub spaced : List ℕ → List ℕ
spaced [] = []
spaced (byte ∷ bytes) = codes " " ++ byte ∷ bytes

-- only the name and the operand, with one space between them
unfoldable pub brief_text : Insn → List ℕ
brief_text i = name_of (operation_of i.code) ++ spaced (operand_text (operation_of i.code) 0 i)

-- ---- Programs

-- a number with zeros in front up to three digits
abbrev pub three_digits : ℕ → List ℕ
three_digits n = replicate (3 - length (decimal n)) 48 ++ decimal n

-- `(000) ldh      [12]`
unfoldable pub placed_text : (place : ℕ) → Insn → List ℕ
placed_text place i = codes "(" ++ three_digits place ++ codes ") " ++ insn_text (place + 1) i

-- and that as a line
abbrev pub line_at : (place : ℕ) → Insn → List ℕ
line_at place i = placed_text place i ++ 10 ∷ []

-- a line for each instruction from this place on
abbrev pub lines_from : (place : ℕ) → List Insn → List ℕ
lines_from place [] = []
lines_from place (i ∷ insns) = line_at place i ++ lines_from (suc place) insns

unfoldable pub image_of : List Insn → List ℕ
image_of insns = lines_from 0 insns
