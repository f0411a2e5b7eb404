-- The laws of images.
use Rattle.std.specs.Prelude.{◌≡◌, ℕ, true, List, Option, Some, Ok, map}
use Rattle.std.specs.List.{AllByRecursion}
use Rattle.bpfvm.specs.declared.insn.Insn.{Insn}
use Rattle.bpfvm.specs.Codes.{Constant, InIndex, Operation, LoadLength, Calculate, Negate, Branch, ReturnAccumulator, Transfer, operation_of}
use Rattle.bpfvm.specs.Validity.{IsValidProgram}
use Rattle.bpfvm.specs.Laws.{HasFields}
use Rattle.bpfvm.specs.Images.{image_of}
use Rattle.bpfvm.specs.Machine.{verdict}
use Rattle.bpf_asm.specs.Assembly.{assembled}
use Rattle.bpf_asm.specs.Notation.{is_assembly}

-- An instruction with 0 in each field that its operation does not use: only a conditional jump uses jt and jf.
abbrev pub cleared_as : Option Operation → Insn → Insn
cleared_as (Some (Branch test Constant)) i = i
cleared_as (Some (Branch test InIndex)) i = record { code = i.code; jt = i.jt; jf = i.jf; k = 0 }
cleared_as (Some (LoadLength to)) i = record { code = i.code; jt = 0; jf = 0; k = 0 }
cleared_as (Some (Calculate how InIndex)) i = record { code = i.code; jt = 0; jf = 0; k = 0 }
cleared_as (Some Negate) i = record { code = i.code; jt = 0; jf = 0; k = 0 }
cleared_as (Some ReturnAccumulator) i = record { code = i.code; jt = 0; jf = 0; k = 0 }
cleared_as (Some (Transfer to)) i = record { code = i.code; jt = 0; jf = 0; k = 0 }
cleared_as other i = record { code = i.code; jt = 0; jf = 0; k = i.k }

abbrev pub cleared : Insn → Insn
cleared i = cleared_as (operation_of i.code) i

-- The image of a valid program is assembly of it, with 0 in each field that an instruction does not use.
abbrev pub ImagesAreRead : Type 0
ImagesAreRead =
    (program : List Insn) → IsValidProgram program → AllByRecursion HasFields program → assembled (image_of program) ≡ Ok (map cleared program)

-- And no image is taken for a decimal listing.
abbrev pub ImagesAreAssembly : Type 0
ImagesAreAssembly = (program : List Insn) → IsValidProgram program → is_assembly (image_of program) ≡ true

-- What is left out changes nothing: the program stays valid, and answers the same to each packet.
abbrev pub ClearedIsValid : Type 0
ClearedIsValid = (program : List Insn) → IsValidProgram program → IsValidProgram (map cleared program)

abbrev pub ClearedAnswersAlike : Type 0
ClearedAnswersAlike = (program : List Insn) (packet : List ℕ) (wire : ℕ) → verdict (map cleared program) packet wire ≡ verdict program packet wire

-- A valid program that a text is assembly of is what its image is assembly of.
abbrev pub AssembledIsReadAgain : Type 0
AssembledIsReadAgain =
    (text : List ℕ) (program : List Insn) → assembled text ≡ Ok program → IsValidProgram program → assembled (image_of program) ≡ Ok program
