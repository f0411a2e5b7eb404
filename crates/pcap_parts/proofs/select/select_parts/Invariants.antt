use Rattle.std.proofs.Common.{take}
use Rattle.std.specs.Prelude.{All}
use Rattle.std.specs.List.{Contains}
use Rattle.pcap_parts.specs.Joining.{begun, Joins}
use Rattle.pcap_parts.specs.Selecting.{Takes}
use Rattle.pcap_parts.proofs.select.select_parts.Given as goal

-- of the parts so far those are selected that follow
abbrev pub invariant-loop-part : goal.invariant-loop-part
invariant-loop-part l = All (Contains l.parts) l.selected.items × Joins (begun l.size) l.selected.items l.whole
    × Takes (begun l.size) (take l.part-index l.parts) l.selected.items l.whole
