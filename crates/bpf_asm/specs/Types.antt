-- The names of the crate's own types and of their variants, for the other files of definitions.
pub use Rattle.bpfvm.specs.declared.insn.Insn.{Insn}
pub use Rattle.bpfvm.specs.declared.fault.Invalid.{Invalid}
pub use Rattle.bpf_asm.specs.declared.fault.Cause.{Cause}
pub use Rattle.bpf_asm.specs.declared.fault.Cause.TheVariants.{BadByte, BadNumber, LongLabel, UnknownName, BadOperand, LabelTwice, BadPlace, NoLabel, JumpBack, JumpTooFar}
pub use Rattle.bpf_asm.specs.declared.fault.AssemblyFault.{AssemblyFault}
pub use Rattle.bpf_asm.specs.declared.fault.AssemblyFault.TheVariants as faults
pub use Rattle.bpf_asm.specs.declared.token.Label.{Label}
pub use Rattle.bpf_asm.specs.declared.token.Size.{Size}
pub use Rattle.bpf_asm.specs.declared.token.Size.TheVariants as sizes
pub use Rattle.bpf_asm.specs.declared.token.Name.{Name}
pub use Rattle.bpf_asm.specs.declared.token.Name.TheVariants as names
pub use Rattle.bpf_asm.specs.declared.token.Token.{Token}
pub use Rattle.bpf_asm.specs.declared.token.Token.TheVariants as tokens
pub use Rattle.bpf_asm.specs.declared.lexer.Front.{Front}
pub use Rattle.bpf_asm.specs.declared.lexer.Front.TheVariants as fronts
pub use Rattle.bpf_asm.specs.declared.operands.Operand.{Operand}
pub use Rattle.bpf_asm.specs.declared.operands.Operand.TheVariants as operands
pub use Rattle.bpf_asm.specs.declared.instructions.Target.{Target}
pub use Rattle.bpf_asm.specs.declared.instructions.Target.TheVariants as targets
pub use Rattle.bpf_asm.specs.declared.instructions.Instruction.{Instruction}
pub use Rattle.bpf_asm.specs.declared.instructions.Instruction.TheVariants as instructions
pub use Rattle.bpf_asm.specs.declared.line.Line.{Line}
