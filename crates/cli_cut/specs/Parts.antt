-- What `bpftap cut --bytes` does with a part that is open: it cuts the part, empties the buffer in front of OUT, and prints a line.
use Rattle.std.specs.Prelude.{◌≡◌, ◌⊎◌, ℕ, Bool, false, List, ◌++◌, Option, Result, codes}
use Rattle.std.specs.Io.KnownBytes.{Keeps}
use Rattle.bpfvm.specs.declared.insn.Insn.{Insn}
use Rattle.savefile.specs.declared.header.Order.{Order}
use Rattle.savefile.specs.declared.header.Unit.{Unit as TimeUnit}
use Rattle.savefile.specs.declared.fault.Fault.TheVariants.{Device}
use Rattle.line_text.specs.Sending.{Takes}
use Rattle.pcap_cut.specs.declared.cut.CutEnd.{CutEnd}
use Rattle.pcap_cut.specs.declared.cut.End.TheVariants.{Output}
use Rattle.pcap_cut.specs.Outcome.{Cuts, end_behind}
use Rattle.pcap_parts.specs.declared.part.PartCut.{PartCut}
use Rattle.pcap_parts.specs.Parts.{IsCounted}
use Rattle.cli_args.specs.declared.places.ByteRange.{ByteRange}
use Rattle.cli_parts.specs.Lines.{part_text}

-- The buffer in front of a sink was emptied after a cut that ended so: nothing waits in it. If that failed, it is a fault of OUT; what the sink
-- took stays.
pub record IsEmptied {R W : Type 0} (taken : W → Option (List ℕ)) (waits : W → Bool) (cut end : CutEnd R W) : Type 0 where
  pub source : end.source ≡ cut.source
  pub sink : Keeps (taken cut.sink) (taken end.sink)
  pub sent : end.sent ≡ cut.sent
  pub tally : end.tally ≡ cut.tally
  pub ends : ((end.end ≡ cut.end) × (waits end.sink ≡ false)) ⊎ (end.end ≡ Output Device)

-- the end of a cut from a source to a sink, whose buffer was emptied then
pub record IsCutAndEmptied {R W : Type 0} (left : R → Option (List ℕ)) (taken : W → Option (List ℕ)) (waits : W → Bool) (from : R) (to : W)
    (program : List Insn) (snap : ℕ) (order : Order) (unit : TimeUnit) (end : CutEnd R W) : Type 0 where
  pub cut : CutEnd R W
  pub cuts : Cuts left taken from to program snap order unit cut
  pub emptied : IsEmptied taken waits cut end

-- a part of this range, of a capture of `whole` bytes, whose cut into this file ended so
pub record IsPartOfCut {R W : Type 0} (range : ByteRange) (whole : ℕ) (path : List ℕ) (cut : CutEnd R W) (part : PartCut) : Type 0 where
  pub first : part.first ≡ range.first
  pub end : part.end ≡ range.end
  pub size : part.size ≡ whole
  pub file : part.file.now ≡ path
  pub tally : part.tally ≡ cut.tally
  pub sent : part.sent ≡ cut.sent
  pub fault : cut.end ≡ end_behind part.fault

-- A writer took the line of the part if the cut came to the part's end or to a torn or bad record, and all was written.
abbrev pub PrintsPart : {R W A E : Type 0} → ByteRange → ℕ → List ℕ → CutEnd R W → Option (List ℕ) → Option (List ℕ) → Result A E → Type 0
PrintsPart range size file cut old new result =
    IsCounted cut.end → (part : PartCut) × IsPartOfCut range size file cut part × Takes old new result (part_text part ++ codes "\n")
