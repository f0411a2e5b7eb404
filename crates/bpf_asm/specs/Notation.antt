-- Which notation a text is in, and the program that it is.
use Rattle.std.specs.Prelude.{◌≡◌, ℕ, Bool, true, false, not, ◌||◌, ◌==◌, List, Ok, drop}
use Rattle.std.specs.Char.{is_ascii_digit}
use Rattle.std.specs.List.{prefix_len}
use Rattle.bpfvm.specs.declared.insn.Insn.{Insn}
use Rattle.bpfvm.specs.Validity.{IsValidProgram}
use Rattle.bpfvm.specs.Listing.{IsListing, IsRefusedListing}
use Rattle.bpf_asm.specs.declared.notation.ProgramTextFault.{ProgramTextFault}
use Rattle.bpf_asm.specs.declared.notation.ProgramTextFault.TheVariants.{Listing, Assembly}
use Rattle.bpf_asm.specs.Tokens.{begins}
use Rattle.bpf_asm.specs.Assembly.{assembled}
use Rattle.bpf_asm.specs.Answers.{IsRefused}

abbrev pub is_space : ℕ → Bool
is_space b = b == 32 || b == 9 || b == 13 || b == 10

abbrev pub past_spaces : List ℕ → List ℕ
past_spaces text = drop (prefix_len is_space text) text

-- the first byte that is no blank is no digit
abbrev pub is_assembly : List ℕ → Bool
is_assembly text = begins (λ b. not (is_ascii_digit b)) (past_spaces text)

abbrev pub is_program_in : (assembly : Bool) → List ℕ → List Insn → Type 0
is_program_in true text insns = assembled text ≡ Ok insns
is_program_in false text insns = IsListing text insns × IsValidProgram insns

-- the program of a text
abbrev pub IsProgramText : List ℕ → List Insn → Type 0
IsProgramText text insns = is_program_in (is_assembly text) text insns

abbrev pub is_none_in : (assembly : Bool) → List ℕ → ProgramTextFault → Type 0
is_none_in true text (Assembly fault) = IsRefused text fault
is_none_in false text (Listing fault) = IsRefusedListing text fault
is_none_in notation text fault = ⊥

-- why a text is none
abbrev pub IsNoProgramText : List ℕ → ProgramTextFault → Type 0
IsNoProgramText text fault = is_none_in (is_assembly text) text fault
