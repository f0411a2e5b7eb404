-- How the forms of `src/image.rt` stand for the texts of operands, only for its private clauses.
use Rattle.std.specs.Prelude.{◌≡◌, ℕ, ◌+◌, List, [], ◌++◌, codes}
use Rattle.std.specs.Fmt.{decimal}
use Rattle.bpfvm.specs.declared.insn.Insn.{Insn}
use Rattle.bpfvm.specs.declared.image.OperandForm.{OperandForm}
use Rattle.bpfvm.specs.declared.image.OperandForm.TheVariants.{Nothing, InIndex, Signed, Hexadecimal, WireLength, Packet, PacketAtIndex, HeaderLength, Cell, Target, TestInIndex, TestHexadecimal, Code}
use Rattle.bpfvm.specs.Codes.{operation_of}
use Rattle.bpfvm.specs.Images.{signed, hexadecimal, column, ways, operand_text, operands_text}

-- a number with a sign in a form
abbrev pub signed_in : OperandForm → ℕ → List ℕ
signed_in Packet k = codes "[" ++ signed k ++ codes "]"
signed_in PacketAtIndex k = codes "[x + " ++ signed k ++ codes "]"
signed_in HeaderLength k = codes "4*([" ++ signed k ++ codes "]&0xf)"
signed_in Cell k = codes "M[" ++ signed k ++ codes "]"
signed_in form k = codes "#" ++ signed k

-- what is written of an instruction's operand in a form
abbrev pub operand_in : OperandForm → (next : ℕ) → Insn → List ℕ
operand_in Nothing next i = []
operand_in InIndex next i = codes "x"
operand_in Signed next i = codes "#" ++ signed i.k
operand_in Hexadecimal next i = codes "#" ++ hexadecimal i.k
operand_in WireLength next i = codes "#pktlen"
operand_in Packet next i = codes "[" ++ signed i.k ++ codes "]"
operand_in PacketAtIndex next i = codes "[x + " ++ signed i.k ++ codes "]"
operand_in HeaderLength next i = codes "4*([" ++ signed i.k ++ codes "]&0xf)"
operand_in Cell next i = codes "M[" ++ signed i.k ++ codes "]"
operand_in Target next i = decimal (next + i.k)
operand_in TestInIndex next i = codes "x"
operand_in TestHexadecimal next i = codes "#" ++ hexadecimal i.k
operand_in Code next i = hexadecimal i.code

-- and where a conditional jump goes on
abbrev pub operands_in : OperandForm → (next : ℕ) → Insn → List ℕ
operands_in TestInIndex next i = column 16 (codes "x") ++ ways next i
operands_in TestHexadecimal next i = column 16 (codes "#" ++ hexadecimal i.k) ++ ways next i
operands_in form next i = operand_in form next i

-- a code's operand is written in this form
pub record Forms (code : ℕ) (form : OperandForm) : Type 0 where
  pub operand : (next : ℕ) (i : Insn) → operand_in form next i ≡ operand_text (operation_of code) next i
  pub operands : (next : ℕ) (i : Insn) → operands_in form next i ≡ operands_text (operation_of code) next i
