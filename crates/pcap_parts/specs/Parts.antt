-- A capture in parts: its header, and ranges of the bytes after it.
use Rattle.std.specs.Prelude.{◌≡◌, ℕ, ◌+◌, List, ◌++◌, length, drop, Option, None, option_map}
use Rattle.bpfvm.specs.declared.insn.Insn.{Insn}
use Rattle.savefile.specs.declared.fault.Fault.{Fault}
use Rattle.savefile.specs.declared.fault.Fault.TheVariants.{TornRecord, BadFraction, TooLong}
use Rattle.savefile.specs.declared.header.Order.{Order}
use Rattle.savefile.specs.declared.header.Unit.{Unit as TimeUnit}
use Rattle.savefile.specs.declared.packet.Packet.{Packet}
use Rattle.savefile.specs.Savefile.{Holds}
use Rattle.pcap_cut.specs.declared.cut.End.{End}
use Rattle.pcap_cut.specs.declared.cut.End.TheVariants.{Clean, Input}
use Rattle.pcap_cut.specs.Cut.{cut_text}

-- the cut of a part came to its end or to a torn or bad record, and all was written
abbrev pub IsCounted : End → Type 0
IsCounted Clean = Unit {0}
IsCounted (Input (TornRecord place)) = Unit {0}
IsCounted (Input (BadFraction place)) = Unit {0}
IsCounted (Input (TooLong place)) = Unit {0}
IsCounted other = ⊥

-- a fault whose place is counted from a later record on
abbrev pub after_records : ℕ → Fault → Fault
after_records n (TornRecord place) = TornRecord (n + place)
after_records n (BadFraction place) = BadFraction (n + place)
after_records n (TooLong place) = TooLong (n + place)
after_records n fault = fault

-- A header with a part holds these packets and no fault; with what follows the part it holds more, up to a fault or to its end.
-- Then the header with both holds the packets of both, up to that fault, at its place in the whole.
abbrev pub ReadsByParts : Type 0
ReadsByParts =
    (header part rest : List ℕ) (order : Order) (unit : TimeUnit) (snap : ℕ) (packets more : List Packet) (fault : Option Fault)
    → length header ≡ 24
    → Holds (header ++ part) order unit snap packets None
    → Holds (header ++ rest) order unit snap more fault
    → Holds (header ++ part ++ rest) order unit snap (packets ++ more) (option_map (after_records (length packets)) fault)

-- What is written of the packets of both is what is written of the first, and then what is written of the others, without a header.
abbrev pub CutsByParts : Type 0
CutsByParts =
    (program : List Insn) (snap : ℕ) (order : Order) (unit : TimeUnit) (packets more : List Packet)
    → cut_text program snap order unit (packets ++ more)
    ≡ cut_text program snap order unit packets ++ drop 24 (cut_text program snap order unit more)
