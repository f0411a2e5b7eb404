-- What the parts of a capture hold together.
use Rattle.std.specs.Prelude.{◌≡◌, ℕ, ◌-◌, ◌≤◌, List, [], ◌∷◌, ◌++◌, length, take, drop}
use Rattle.std.specs.List.{AllZip}
use Rattle.bpfvm.specs.declared.insn.Insn.{Insn}
use Rattle.savefile.specs.declared.header.Order.{Order}
use Rattle.savefile.specs.declared.header.Unit.{Unit as TimeUnit}
use Rattle.savefile.specs.declared.packet.Packet.{Packet}
use Rattle.savefile.specs.Savefile.{Holds, IsHeader}
use Rattle.pcap_cut.specs.Cut.{cut_text}
use Rattle.pcap_parts.specs.declared.join.Joined.{Joined}
use Rattle.pcap_parts.specs.declared.part.PartCut.{PartCut}
use Rattle.pcap_parts.specs.Joining.{begun, IsWhole, Joins}

-- the bytes of a text from `first` on, up to the one before `end`
abbrev pub between : (first end : ℕ) → List ℕ → List ℕ
between first end text = take (end - first) (drop first text)

-- What the cut of a part reports is so: the header with the bytes of the part holds these packets, as many as it says, and its fault, or none,
-- ends them.
pub record IsPartOf (text : List ℕ) (order : Order) (unit : TimeUnit) (snap : ℕ) (part : PartCut) (packets : List Packet) : Type 0 where
  pub ordered : part.first ≤ part.end
  pub inside : part.end ≤ length text
  pub holds : Holds (take 24 text ++ between part.first part.end text) order unit snap packets part.fault
  pub counted : part.tally.read ≡ length packets

-- the packets of some parts, one after the other
abbrev pub all_of : List (List Packet) → List Packet
all_of [] = []
all_of (packets ∷ lists) = packets ++ all_of lists

-- what some texts have after their headers, one after the other
abbrev pub without_headers : (List Packet → List ℕ) → List (List Packet) → List ℕ
without_headers text [] = []
without_headers text (packets ∷ lists) = drop 24 (text packets) ++ without_headers text lists

-- If reports of parts are so, and the parts make a whole capture, then the capture holds the packets of all, up to the fault that the whole has.
abbrev pub HoldsItsParts : Type 0
HoldsItsParts =
    (text : List ℕ) (order : Order) (unit : TimeUnit) (snap : ℕ) (parts : List PartCut) (lists : List (List Packet)) (whole : Joined)
    → IsHeader order text unit snap → AllZip (IsPartOf text order unit snap) parts lists
    → Joins (begun (length text)) parts whole → IsWhole whole
    → Holds text order unit snap (all_of lists) whole.fault

-- A cut of the packets of all parts is the cut of the first part's, and then those of the others', without their headers.
abbrev pub CutsItsParts : Type 0
CutsItsParts =
    (program : List Insn) (snap : ℕ) (order : Order) (unit : TimeUnit) (packets : List Packet) (lists : List (List Packet))
    → cut_text program snap order unit (all_of (packets ∷ lists))
    ≡ cut_text program snap order unit packets ++ without_headers (cut_text program snap order unit) lists
