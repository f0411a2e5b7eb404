-- Which parts are joined, of those that LINES says.
use Rattle.std.specs.Prelude.{ℕ, List, [], ◌∷◌, ⊤}
use Rattle.line_text.specs.Files.{IsFileOf, IsFirstBad}
use Rattle.pcap_parts.specs.declared.again.Stretch.{Stretch}
use Rattle.pcap_parts.specs.declared.join.Misfit.TheVariants.{CutOff}
use Rattle.pcap_parts.specs.declared.part.PartCut.{PartCut}
use Rattle.pcap_parts.specs.declared.select.Selection.{Selection}
use Rattle.pcap_parts.specs.Again.{AreAgain}
use Rattle.pcap_parts.specs.Selecting.{Selects, StopsAt}
use Rattle.cli_parts.specs.Lines.{IsPartLine}
use Rattle.cli_parts.specs.declared.lines.LinesFault.{LinesFault}
use Rattle.cli_parts.specs.declared.lines.LinesFault.TheVariants.{Line, Misfit, Again, NoMemory}

-- LINES says these parts, a line each
abbrev pub SayParts : List ℕ → List PartCut → Type 0
SayParts text parts = IsFileOf IsPartLine text parts

-- how many bytes the capture of these parts has: what the first of them says
abbrev pub size_of : List PartCut → ℕ
size_of [] = 24
size_of (p ∷ ps) = p.size

-- this line of LINES is the first that is none of a part; or memory was refused
abbrev pub IsLineFault : List ℕ → LinesFault → Type 0
IsLineFault text (Line number) = IsFirstBad IsPartLine text number
IsLineFault text NoMemory = ⊤
IsLineFault text other = ⊥

-- Why these parts make no whole capture: one does not follow. If it does not since it is cut off, some stretches are to be cut again, and no other fault
-- is reported.
abbrev pub IsPartsFault : List PartCut → LinesFault → Type 0
IsPartsFault parts (Misfit (CutOff first end)) = ⊥
IsPartsFault parts (Misfit misfit) = StopsAt (size_of parts) parts misfit
IsPartsFault parts (Again again) =
    (cut_off : Stretch) × StopsAt (size_of parts) parts (CutOff cut_off.first cut_off.end) × AreAgain parts cut_off (size_of parts) again.items
IsPartsFault parts (Line number) = ⊥
IsPartsFault parts NoMemory = ⊤

-- those parts are selected that make a whole capture, of as many bytes as the first line says
abbrev pub IsSelection : List ℕ → Selection → Type 0
IsSelection text selection =
    (parts : List PartCut) × SayParts text parts × Selects (size_of parts) parts selection.parts.items selection.whole

-- why none are
abbrev pub IsLinesFault : List ℕ → LinesFault → Type 0
IsLinesFault text (Line number) = IsFirstBad IsPartLine text number
IsLinesFault text NoMemory = ⊤
IsLinesFault text other = (parts : List PartCut) × SayParts text parts × IsPartsFault parts other
