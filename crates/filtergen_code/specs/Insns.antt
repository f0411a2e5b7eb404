-- The instructions that stand for jumps, loads and operators. Only private clauses use this.
use Rattle.std.specs.Prelude.{ℕ}
use Rattle.bpfvm.specs.declared.insn.Insn.{Insn}
use Rattle.filter_tree.specs.declared.tree.Operator.{Operator}
use Rattle.filter_tree.specs.declared.tree.Operator.TheVariants as operators
use Rattle.filter_tree.specs.declared.tree.Size.{Size}
use Rattle.filter_tree.specs.declared.tree.Size.TheVariants as sizes
use Rattle.filtergen_code.specs.declared.insns.Jump.{Jump}
use Rattle.filtergen_code.specs.declared.insns.Jump.TheVariants as jumps
use Rattle.filtergen_code.specs.declared.insns.Operand.{Operand}
use Rattle.filtergen_code.specs.declared.insns.Operand.TheVariants as operands
use Rattle.filtergen_code.specs.declared.insns.Field.{Field}
use Rattle.filtergen_code.specs.declared.insns.Field.TheVariants as fields

abbrev pub plain_insn : ℕ → ℕ → Insn
plain_insn code k = record { code = code; jt = 0; jf = 0; k = k }

abbrev pub branch_code : Jump → Operand → ℕ
branch_code jumps.Equal (operands.Constant k) = 0x15
branch_code jumps.Greater (operands.Constant k) = 0x25
branch_code jumps.GreaterOrEqual (operands.Constant k) = 0x35
branch_code jumps.AnyBit (operands.Constant k) = 0x45
branch_code jumps.Equal operands.Index = 0x1d
branch_code jumps.Greater operands.Index = 0x2d
branch_code jumps.GreaterOrEqual operands.Index = 0x3d
branch_code jumps.AnyBit operands.Index = 0x4d

abbrev pub constant_of : Operand → ℕ
constant_of (operands.Constant k) = k
constant_of operands.Index = 0

abbrev pub branch_insn : Jump → Operand → ℕ → ℕ → Insn
branch_insn jump operand jt jf = record { code = branch_code jump operand; jt = jt; jf = jf; k = constant_of operand }

abbrev pub load_insn : Field → Insn
load_insn (fields.Byte o) = plain_insn 0x30 o
load_insn (fields.Half o) = plain_insn 0x28 o
load_insn (fields.Word o) = plain_insn 0x20 o
load_insn fields.Length = plain_insn 0x80 0

abbrev pub calculation_code : Operator → Operand → ℕ
calculation_code operators.Plus (operands.Constant k) = 0x04
calculation_code operators.Minus (operands.Constant k) = 0x14
calculation_code operators.Times (operands.Constant k) = 0x24
calculation_code operators.Divide (operands.Constant k) = 0x34
calculation_code operators.Modulo (operands.Constant k) = 0x94
calculation_code operators.BitAnd (operands.Constant k) = 0x54
calculation_code operators.BitXor (operands.Constant k) = 0xa4
calculation_code operators.BitOr (operands.Constant k) = 0x44
calculation_code operators.ShiftLeft (operands.Constant k) = 0x64
calculation_code operators.ShiftRight (operands.Constant k) = 0x74
calculation_code operators.Plus operands.Index = 0x0c
calculation_code operators.Minus operands.Index = 0x1c
calculation_code operators.Times operands.Index = 0x2c
calculation_code operators.Divide operands.Index = 0x3c
calculation_code operators.Modulo operands.Index = 0x9c
calculation_code operators.BitAnd operands.Index = 0x5c
calculation_code operators.BitXor operands.Index = 0xac
calculation_code operators.BitOr operands.Index = 0x4c
calculation_code operators.ShiftLeft operands.Index = 0x6c
calculation_code operators.ShiftRight operands.Index = 0x7c

abbrev pub calculation_insn : Operator → Operand → Insn
calculation_insn operator operand = plain_insn (calculation_code operator operand) (constant_of operand)

-- the load of some bytes at an offset in the frame, and at one from the index register
abbrev pub absolute_code : Size → ℕ
absolute_code sizes.One = 0x30
absolute_code sizes.Two = 0x28
absolute_code sizes.Four = 0x20

abbrev pub indirect_code : Size → ℕ
indirect_code sizes.One = 0x50
indirect_code sizes.Two = 0x48
indirect_code sizes.Four = 0x40
