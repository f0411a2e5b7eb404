-- Parts that are selected of the lines.
use Rattle.std.proofs.Common.{ℕ, List}
use Rattle.std.specs.Prelude.{IfErr, IfOk, Result, Ok, Err}
use Rattle.pcap_parts.specs.declared.part.PartCut.{PartCut}
use Rattle.pcap_parts.specs.declared.select.Selection.{Selection}
use Rattle.pcap_parts.specs.Selecting.{Selects}
use Rattle.cli_parts.specs.declared.lines.LinesFault.{LinesFault}
use Rattle.cli_parts.specs.declared.lines.LinesFault.TheVariants.{Line, Misfit, Again, NoMemory}
use Rattle.cli_parts.specs.Selected.{size_of, IsLineFault, IsLinesFault, IsPartsFault, IsSelection, SayParts}

pub line_fault : (text : List ℕ) (fault : LinesFault) → IsLineFault text fault → IsLinesFault text fault
line_fault text (Line number) is = is
line_fault text (Misfit misfit) is = absurd is
line_fault text (Again again) is = absurd is
line_fault text NoMemory is = tt

parts_fault : (text : List ℕ) (parts : List PartCut) (fault : LinesFault) → SayParts text parts → IsPartsFault parts fault → IsLinesFault text fault
parts_fault text parts (Line number) said is = absurd is
parts_fault text parts (Misfit misfit) said is = (parts, said, is)
parts_fault text parts (Again again) said is = (parts, said, is)
parts_fault text parts NoMemory said is = tt

pub selection_of : (text : List ℕ) (parts : List PartCut) (result : Result Selection LinesFault) → SayParts text parts
    → IfOk result (λ selection. Selects (size_of parts) parts selection.parts.items selection.whole) → IfOk result (IsSelection text)
selection_of text parts (Ok selection) said selects = (parts, said, selects)
selection_of text parts (Err fault) said selects = tt

pub fault_of : (text : List ℕ) (parts : List PartCut) (result : Result Selection LinesFault) → SayParts text parts
    → IfErr result (IsPartsFault parts) → IfErr result (IsLinesFault text)
fault_of text parts (Ok selection) said fault = tt
fault_of text parts (Err why) said fault = parts_fault text parts why said fault
