-- How the faults of assembly read: the name, and after a blank the line, or the fault of the program; and those of programs in
-- whichever notation.
use Rattle.std.specs.Prelude.{ℕ, List, [], ◌++◌, codes}
use Rattle.std.specs.Fmt.{decimal}
use Rattle.bpfvm.specs.Faults.{invalid_text, listing_fault_name, listing_fault_text}
use Rattle.bpf_asm.specs.declared.fault.Cause.{Cause}
use Rattle.bpf_asm.specs.declared.fault.Cause.TheVariants as cause
use Rattle.bpf_asm.specs.declared.fault.AssemblyFault.{AssemblyFault}
use Rattle.bpf_asm.specs.declared.fault.AssemblyFault.TheVariants as assembly
use Rattle.bpf_asm.specs.declared.notation.ProgramTextFault.{ProgramTextFault}
use Rattle.bpf_asm.specs.declared.notation.ProgramTextFault.TheVariants.{Listing, Assembly}

abbrev pub cause_text : Cause → List ℕ
cause_text cause.BadByte = codes "BadByte"
cause_text cause.BadNumber = codes "BadNumber"
cause_text cause.LongLabel = codes "LongLabel"
cause_text cause.UnknownName = codes "UnknownName"
cause_text cause.BadOperand = codes "BadOperand"
cause_text cause.LabelTwice = codes "LabelTwice"
cause_text cause.BadPlace = codes "BadPlace"
cause_text cause.NoLabel = codes "NoLabel"
cause_text cause.JumpBack = codes "JumpBack"
cause_text cause.JumpTooFar = codes "JumpTooFar"

abbrev pub assembly_fault_name : AssemblyFault → List ℕ
assembly_fault_name assembly.TextTooLong = codes "TextTooLong"
assembly_fault_name (assembly.Line line fault) = cause_text fault
assembly_fault_name (assembly.Program fault) = codes "Program"
assembly_fault_name assembly.NoMemory = codes "NoMemory"

-- what stands after the name
abbrev pub assembly_fault_rest : AssemblyFault → List ℕ
assembly_fault_rest (assembly.Line line fault) = codes " " ++ decimal line
assembly_fault_rest (assembly.Program fault) = codes " " ++ invalid_text fault
assembly_fault_rest other = []

abbrev pub assembly_fault_text : AssemblyFault → List ℕ
assembly_fault_text fault = assembly_fault_name fault ++ assembly_fault_rest fault

abbrev pub program_text_fault_name : ProgramTextFault → List ℕ
program_text_fault_name (Listing fault) = listing_fault_name fault
program_text_fault_name (Assembly fault) = assembly_fault_name fault

abbrev pub program_text_fault_text : ProgramTextFault → List ℕ
program_text_fault_text (Listing fault) = listing_fault_text fault
program_text_fault_text (Assembly fault) = assembly_fault_text fault
