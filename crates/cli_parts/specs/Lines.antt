-- The line of a range of bytes, and that of a part that was cut.
use Rattle.std.specs.Prelude.{◌≡◌, ℕ, ◌<◌, ◌≤◌, ◌^◌, List, ◌++◌, Option, Some, None, codes, ⊤}
use Rattle.std.specs.Str.{IsUtf8}
use Rattle.std.specs.Fmt.{decimal}
use Rattle.savefile.specs.declared.fault.Fault.{Fault}
use Rattle.savefile.specs.declared.fault.Fault.TheVariants.{TornRecord, BadFraction, TooLong}
use Rattle.savefile.specs.Faults.{fault_text}
use Rattle.line_text.specs.declared.form.LineForm.{LineForm}
use Rattle.line_text.specs.declared.form.LineForm.TheVariants.{Text, Json}
use Rattle.pcap_parts.specs.declared.part.PartCut.{PartCut}

-- `FIRST-END`
unfoldable pub range_text : (first end : ℕ) → List ℕ
range_text first end = decimal first ++ codes "-" ++ decimal end

-- the line of a range
abbrev pub range_line : LineForm → (first end : ℕ) → List ℕ
range_line Text first end = range_text first end ++ codes "\n"
range_line Json first end = codes "{\"first\":" ++ decimal first ++ codes ",\"end\":" ++ decimal end ++ codes "}\n"

-- ` Clean `, or the fault between blanks
abbrev pub end_text : Option Fault → List ℕ
end_text None = codes " Clean "
end_text (Some fault) = codes " " ++ fault_text fault ++ codes " "

-- `FIRST-END of SIZE packets R kept W bytes B Clean FILE`, or the fault in place of `Clean`
unfoldable pub part_text : PartCut → List ℕ
part_text p = range_text p.first p.end ++ (codes " of " ++ decimal p.size ++ codes " packets " ++ decimal p.tally.read)
    ++ (codes " kept " ++ decimal p.tally.written ++ codes " bytes " ++ decimal p.sent) ++ end_text p.fault ++ p.file.now

-- a part ends clean, or with a torn or bad record, whose place is below 2^64
abbrev pub IsPartEnd : Option Fault → Type 0
IsPartEnd None = ⊤
IsPartEnd (Some (TornRecord place)) = place < 2 ^ 64
IsPartEnd (Some (BadFraction place)) = place < 2 ^ 64
IsPartEnd (Some (TooLong place)) = place < 2 ^ 64
IsPartEnd (Some other) = ⊥

-- A line may say a part: its range does not end before it begins, its numbers are below 2^64, and its path is a text in UTF-8.
pub record IsSayable (p : PartCut) : Type 0 where
  pub ordered : p.first ≤ p.end
  pub end : p.end < 2 ^ 64
  pub size : p.size < 2 ^ 64
  pub read : p.tally.read < 2 ^ 64
  pub written : p.tally.written < 2 ^ 64
  pub sent : p.sent < 2 ^ 64
  pub fault : IsPartEnd p.fault
  pub file : IsUtf8 p.file.now

-- a line, without its end, is the one of a part
abbrev pub IsPartLine : List ℕ → PartCut → Type 0
IsPartLine line part = IsSayable part × (line ≡ part_text part)
