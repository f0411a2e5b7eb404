-- How a cut ends, and what its sink took.
use Rattle.std.specs.Prelude.{◌≡◌, ℕ, ◌+◌, ◌-◌, ◌^◌, ◌<◌, ◌≤◌, Bool, true, false, List, [], ◌++◌, length, filter, Option, Some, None, IfSome, ◌⊎◌}
use Rattle.std.specs.Io.KnownBytes.{Appends, Consumes}
use Rattle.savefile.specs.declared.fault.Fault.{Fault}
use Rattle.savefile.specs.declared.fault.Fault.TheVariants.{Device, NoMemory, CountFull}
use Rattle.savefile.specs.declared.header.Order.{Order}
use Rattle.savefile.specs.declared.header.Unit.{Unit as TimeUnit}
use Rattle.savefile.specs.declared.packet.Packet.{Packet}
use Rattle.savefile.specs.Savefile.{IsSavefile, NoRecord, RefusesHeader, IsCapture}
use Rattle.savefile.specs.Writer.{IsBeginning}
use Rattle.bpfvm.specs.declared.insn.Insn.{Insn}
use Rattle.pcap_cut.specs.declared.cut.End.{End}
use Rattle.pcap_cut.specs.declared.cut.End.TheVariants.{Clean, Input, Output}
use Rattle.pcap_cut.specs.declared.cut.CutEnd.{CutEnd}
use Rattle.pcap_cut.specs.declared.cut.Tally.{Tally}
use Rattle.pcap_cut.specs.Cut.{accepts, cut_text}

-- A capture, in whatever order and unit, stops after these packets: its rest has no whole record.
pub record StopsBehind (text : List ℕ) (packets : List Packet) : Type 0 where
  pub order : Order
  pub unit : TimeUnit
  pub snap : ℕ
  pub rest : List ℕ
  pub reads : IsSavefile text order unit snap packets rest
  pub no_more : NoRecord order unit rest

-- the end that a whole capture has: clean, or the fault of a torn or bad record
abbrev pub end_behind : Option Fault → End
end_behind None = Clean
end_behind (Some fault) = Input fault

-- how many packets were read, and how many of these a program accepts
pub record IsTally (program : List Insn) (packets : List Packet) (tally : Tally) : Type 0 where
  pub read : tally.read ≡ length packets
  pub written : tally.written ≡ length (filter (accepts program) packets)

-- one packet more was read, and counted where the program accepts it
abbrev pub tallied : Bool → Tally → Tally
tallied true tally = record { read = tally.read + 1; written = tally.written + 1 }
tallied false tally = record { read = tally.read + 1; written = tally.written }

-- All was sent: every packet of the capture that the program accepts, cut, up to the end of the capture or to its first
-- torn or bad record; and they were counted.
pub record AllSent (text : List ℕ) (program : List Insn) (snap : ℕ) (order : Order) (unit : TimeUnit) (tally : Tally) (end : End) (sent : List ℕ) : Type 0 where
  pub packets : List Packet
  pub fault : Option Fault
  pub reads : IsCapture text packets fault
  pub ends : end ≡ end_behind fault
  pub whole : sent ≡ cut_text program snap order unit packets
  pub counted : IsTally program packets tally

-- No header was read, of a source that is now `back`, and the sink is as it was: the header is refused; memory was wanting, and
-- the source is as it was too; or the source, which had given these bytes, broke inside the header.
pub record StopsAtHeader {R W : Type 0} (from back : R) (to sink : W) (text given : List ℕ) (fault : Fault) (sent : List ℕ) : Type 0 where
  pub why : RefusesHeader text fault ⊎ ((fault ≡ NoMemory) × (back ≡ from)) ⊎ ((fault ≡ Device) × (length given < 24))
  pub untouched : sink ≡ to
  pub nothing : sent ≡ []

-- The reading broke off after the packets `before`, and the accepted ones of these were sent, all of them: the source broke, and
-- what it had given stops after them; or no more packets can be counted.
pub record StopsReading (text given : List ℕ) (program : List Insn) (snap : ℕ) (order : Order) (unit : TimeUnit) (fault : Fault) (sent : List ℕ) : Type 0 where
  pub before : List Packet
  pub after : List Packet
  pub record_fault : Option Fault
  pub reads : IsCapture text (before ++ after) record_fault
  pub whole : sent ≡ cut_text program snap order unit before
  pub why : ((fault ≡ Device) × StopsBehind given before) ⊎ ((fault ≡ CountFull) × (length before ≡ 2 ^ 64 - 1))

-- The writing broke off, and a beginning was sent: the sink broke, or the whole has more bytes than can be counted.
pub record StopsWriting (text : List ℕ) (program : List Insn) (snap : ℕ) (order : Order) (unit : TimeUnit) (fault : Fault) (sent : List ℕ) : Type 0 where
  pub packets : List Packet
  pub record_fault : Option Fault
  pub reads : IsCapture text packets record_fault
  pub begins : IsBeginning sent (cut_text program snap order unit packets)
  pub why : (fault ≡ Device) ⊎ ((fault ≡ CountFull) × (2 ^ 64 ≤ length (cut_text program snap order unit packets)))

-- It broke off: at the source, before its header was read or after that, or at the sink.
abbrev pub BrokeOff : {R W : Type 0} → R → R → W → W → List ℕ → List ℕ → List Insn → ℕ → Order → TimeUnit → End → List ℕ → Type 0
BrokeOff from back to sink text given program snap order unit Clean sent = ⊥
BrokeOff from back to sink text given program snap order unit (Input fault) sent =
    StopsAtHeader from back to sink text given fault sent ⊎ StopsReading text given program snap order unit fault sent
BrokeOff from back to sink text given program snap order unit (Output fault) sent = StopsWriting text program snap order unit fault sent

-- A sink, which was `old` and is `new`, took these bytes and no more, and their number is reported.
pub record Took {W : Type 0} (taken : W → Option (List ℕ)) (old new : W) (count : ℕ) (bytes : List ℕ) : Type 0 where
  pub appends : Appends (taken old) (taken new) bytes
  pub counts : count ≡ length bytes

-- A cut from a source to a sink: the text that the source had left, what it gave of that, and what the sink took, if
-- their bytes are known; and all was sent, or it broke off.
pub record Cuts {R W : Type 0} (left : R → Option (List ℕ)) (taken : W → Option (List ℕ)) (from : R) (to : W)
    (program : List Insn) (snap : ℕ) (order : Order) (unit : TimeUnit) (end : CutEnd R W) : Type 0 where
  pub text : List ℕ
  pub told : IfSome (left from) (λ bytes. bytes ≡ text)
  pub given : List ℕ
  pub gave : Consumes (left from) (left end.source) given
  pub sent : List ℕ
  pub took : Took taken to end.sink end.sent sent
  pub outcome : AllSent text program snap order unit end.tally end.end sent
      ⊎ BrokeOff from end.source to end.sink text given program snap order unit end.end sent
