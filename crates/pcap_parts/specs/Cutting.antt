-- One capture that was cut in parts and joined: from what each cut did, and its line says, to what is written.
use Rattle.std.specs.Prelude.{◌≡◌, ℕ, ◌≤◌, List, [], ◌++◌, length, take, Option, Some, All}
use Rattle.bpfvm.specs.declared.insn.Insn.{Insn}
use Rattle.savefile.specs.declared.header.Order.{Order}
use Rattle.savefile.specs.declared.header.Unit.{Unit as TimeUnit}
use Rattle.savefile.specs.declared.packet.Packet.{Packet}
use Rattle.savefile.specs.Savefile.{IsCapture, IsText}
use Rattle.pcap_cut.specs.declared.cut.CutEnd.{CutEnd}
use Rattle.pcap_cut.specs.Cut.{cut_text}
use Rattle.pcap_cut.specs.Outcome.{Cuts, end_behind}
use Rattle.pcap_parts.specs.declared.join.Joined.{Joined}
use Rattle.pcap_parts.specs.declared.part.PartCut.{PartCut}
use Rattle.pcap_parts.specs.Parts.{IsCounted}
use Rattle.pcap_parts.specs.Selecting.{Selects}
use Rattle.pcap_parts.specs.Whole.{between}
use Rattle.pcap_parts.specs.Writing.{IsWritten, Texts}

-- The header of a capture with the bytes of a part was cut into an empty sink. The part says what that came to, and its path leads to what the sink
-- took.
pub record WasCut {R W : Type 0} (left : R → Option (List ℕ)) (taken : W → Option (List ℕ)) (files : Texts) (text : List ℕ)
    (program : List Insn) (snap : ℕ) (order : Order) (unit : TimeUnit) (part : PartCut) : Type 0 where
  pub ordered : part.first ≤ part.end
  pub inside : part.end ≤ length text
  pub size : part.size ≡ length text
  pub from : R
  pub to : W
  pub end : CutEnd R W
  pub had : left from ≡ Some (take 24 text ++ between part.first part.end text)
  pub empty : taken to ≡ Some []
  pub cuts : Cuts left taken from to program snap order unit end
  pub counted : IsCounted end.end
  pub tally : part.tally ≡ end.tally
  pub ends : end.end ≡ end_behind part.fault
  pub file : files part.file.now ≡ taken end.sink

-- If parts of a capture were cut so, wherever they begin, are selected as the whole of it, and are written as one, then that is the cut of the packets
-- that the capture has, up to its end or to the fault that the parts have together.
abbrev pub JoinsWhatWasCut : {R W : Type 0} → (R → Option (List ℕ)) → (W → Option (List ℕ)) → Type 0
JoinsWhatWasCut left taken =
    (files : Texts) (text : List ℕ) (program : List Insn) (snap : ℕ) (order : Order) (unit : TimeUnit)
    (size : ℕ) (given parts : List PartCut) (whole : Joined) (new : List ℕ)
    → IsText text → Selects size given parts whole → All (WasCut left taken files text program snap order unit) parts
    → IsWritten files (Some []) (Some new) parts
    → (packets : List Packet) × IsCapture text packets whole.fault × (new ≡ cut_text program snap order unit packets)
