-- Listings: programs as text, a number of instructions on the first line and one instruction on each other line.
use Rattle.std.specs.Prelude.{◌≡◌, ℕ, Bool, zero, suc, ◌+◌, ◌<◌, ◌≤◌, List, [], ◌∷◌, ◌++◌, length, slice_get, Some, ◌==◌}
use Rattle.std.specs.List.{slice_split, flat_map}
use Rattle.std.specs.Fmt.{decimal}
use Rattle.std.specs.Str.Parse.{IsNumeral, digits_value}
use Rattle.bpfvm.specs.declared.insn.Insn.{Insn}
use Rattle.bpfvm.specs.declared.fault.ListingFault.{ListingFault}
use Rattle.bpfvm.specs.declared.fault.ListingFault.TheVariants.{BadLine, Count, Program}
use Rattle.bpfvm.specs.Validity.{IsRefusedAs}

abbrev pub line_feed : ℕ
line_feed = 10

abbrev pub space : ℕ
space = 32

abbrev pub without_empty_last : List (List ℕ) → List (List ℕ)
without_empty_last [] = []
without_empty_last ([] ∷ []) = []
without_empty_last (piece ∷ pieces) = piece ∷ without_empty_last pieces

abbrev pub is_line_feed : ℕ → Bool
is_line_feed byte = byte == line_feed

-- The lines of the text after a line: it is cut at each line feed, and an empty last piece is no line.
abbrev pub further_lines : List ℕ → List (List ℕ)
further_lines text = without_empty_last (slice_split is_line_feed text)

-- The lines of a text are cut in the same way, but the empty text has one empty line.
abbrev pub lines_of : List ℕ → List (List ℕ)
lines_of [] = [] ∷ []
lines_of (byte ∷ bytes) = further_lines (byte ∷ bytes)

-- one decimal digit or more, with leading zeros or without, that write a number up to the greatest one
pub record IsNumber (most : ℕ) (text : List ℕ) (n : ℕ) : Type 0 where
  pub numeral : IsNumeral 10 text
  pub is : n ≡ digits_value 10 text
  pub fits : n ≤ most

-- `code jt jf k`: four decimal numbers with one space between them, each within its field's range
pub record IsLine (line : List ℕ) (insn : Insn) : Type 0 where
  pub code : List ℕ
  pub jt : List ℕ
  pub jf : List ℕ
  pub k : List ℕ
  pub text : line ≡ code ++ space ∷ jt ++ space ∷ jf ++ space ∷ k
  pub code_is : IsNumber 65535 code insn.code
  pub jt_is : IsNumber 255 jt insn.jt
  pub jf_is : IsNumber 255 jf insn.jf
  pub k_is : IsNumber 4294967295 k insn.k

-- each line is an instruction, in order
abbrev pub AreLines : List (List ℕ) → List Insn → Type 0
AreLines [] [] = Unit {0}
AreLines (line ∷ lines) (insn ∷ insns) = IsLine line insn × AreLines lines insns
AreLines [] (insn ∷ insns) = ⊥
AreLines (line ∷ lines) [] = ⊥

-- the text is a first line with the number of the instructions, and a line for each instruction
pub record IsListing (text : List ℕ) (insns : List Insn) : Type 0 where
  pub first : List ℕ
  pub others : List (List ℕ)
  pub lines : lines_of text ≡ first ∷ others
  pub count : IsNumber 4294967295 first (length insns)
  pub each : AreLines others insns

-- the form that the line at a place must have, counted from 0
abbrev pub HasForm : ℕ → List ℕ → Type 0
HasForm zero line = (n : ℕ) × IsNumber 4294967295 line n
HasForm (suc k) line = (insn : Insn) × IsLine line insn

-- why a text is no listing of a program: the first malformed line, counted from 1, then the count, then the program's
-- own fault
abbrev pub IsRefusedListing : List ℕ → ListingFault → Type 0
IsRefusedListing text (BadLine n) =
    (place : ℕ) × (line : List ℕ) × (n ≡ place + 1) × (slice_get (lines_of text) place ≡ Some line)
    × (HasForm place line → ⊥)
    × ((k : ℕ) (earlier : List ℕ) → k < place → slice_get (lines_of text) k ≡ Some earlier → HasForm k earlier)
IsRefusedListing text Count =
    (first : List ℕ) × (others : List (List ℕ)) × (n : ℕ) × (insns : List Insn) × (lines_of text ≡ first ∷ others)
    × IsNumber 4294967295 first n × AreLines others insns × (n ≡ length insns → ⊥)
IsRefusedListing text (Program fault) = (insns : List Insn) × IsListing text insns × IsRefusedAs insns fault

-- a line feed after the number of the instructions and after each instruction, and no leading zeros
abbrev pub line_text : Insn → List ℕ
line_text i = decimal i.code ++ space ∷ decimal i.jt ++ space ∷ decimal i.jf ++ space ∷ decimal i.k ++ line_feed ∷ []

unfoldable pub listing_of : List Insn → List ℕ
listing_of insns = decimal (length insns) ++ line_feed ∷ flat_map line_text insns
