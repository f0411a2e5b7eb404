-- The ranges that are printed, one after the other.
use Rattle.std.specs.Prelude.{◌≡◌, ℕ, List, [], ◌∷◌, ◌++◌, Option}
use Rattle.std.specs.Io.KnownBytes.{Appends}
use Rattle.line_text.specs.declared.form.LineForm.{LineForm}
use Rattle.pcap_parts.specs.declared.again.Stretch.{Stretch}
use Rattle.cli_parts.specs.Lines.{range_line}

-- the lines of ranges of which each begins where the one before ends, the first at this byte, and which end at these
abbrev pub lines_between : LineForm → ℕ → List ℕ → List ℕ
lines_between form first [] = []
lines_between form first (end ∷ ends) = range_line form first end ++ lines_between form end ends

-- where the last of them ends
abbrev pub last_end : ℕ → List ℕ → ℕ
last_end first [] = first
last_end first (end ∷ ends) = last_end end ends

-- a writer took the lines of ranges that follow each other from the header to the end of a capture of so many bytes
pub record ArePrinted (old new : Option (List ℕ)) (form : LineForm) (size : ℕ) : Type 0 where
  pub ends : List ℕ
  pub last : last_end 24 ends ≡ size
  pub took : Appends old new (lines_between form 24 ends)

-- the lines of stretches
abbrev pub stretch_lines : LineForm → List Stretch → List ℕ
stretch_lines form [] = []
stretch_lines form (s ∷ ss) = range_line form s.first s.end ++ stretch_lines form ss
