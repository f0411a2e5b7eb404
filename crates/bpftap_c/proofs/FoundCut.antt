-- A cut of a capture in memory that ended at the capture's end, or at a torn or bad record.
use Rattle.std.proofs.Common.{◌≡◌, ℕ, ◌-◌, ◌^◌, ◌<◌, List, [], length, Option, Some, IfSome, true, sym, subst, ◌⊎◌, inl, inr}
use Rattle.std.specs.Io.KnownBytes.{Appends}
use Rattle.savefile.specs.declared.fault.Fault.{Fault}
use Rattle.savefile.specs.declared.fault.Fault.TheVariants.{ShortHeader, NotSavefile, Version, LinkType, TornRecord, BadFraction, TooLong, Device, Failed, CountFull, NoMemory}
use Rattle.savefile.specs.declared.header.Order.{Order}
use Rattle.savefile.specs.declared.header.Unit.{Unit as TimeUnit}
use Rattle.savefile.specs.declared.packet.Packet.{Packet}
use Rattle.savefile.specs.Savefile.{IsCapture, IsHeader, RefusesHeader}
use Rattle.bpfvm.specs.declared.insn.Insn.{Insn}
use Rattle.pcap_cut.specs.declared.cut.End.{End}
use Rattle.pcap_cut.specs.declared.cut.End.TheVariants.{Clean, Input, Output}
use Rattle.pcap_cut.specs.declared.cut.CutEnd.{CutEnd}
use Rattle.pcap_cut.specs.Outcome.{Cuts, AllSent, StopsBehind, BrokeOff, end_behind}
use Rattle.bpftap_c.specs.Cuts.{IsCut, is_whole}

-- what was cut, and how the capture ended
abbrev pub WasCut : List ℕ → List Insn → ℕ → List ℕ → End → Type 0
WasCut capture program snap text end = (fault : Option Fault) × IsCut capture program snap text fault × (end ≡ end_behind fault)

module _ {R W : Type 0} (from back : R) (to sink : W) (text given : List ℕ) (program : List Insn) (snap : ℕ) (order : Order) (unit : TimeUnit) (sent : List ℕ) where
  before_header : (fault : Fault) → (RefusesHeader text fault → ⊥) → (fault ≡ NoMemory → ⊥) → (fault ≡ Device → ⊥)
      → RefusesHeader text fault ⊎ ((fault ≡ NoMemory) × (back ≡ from)) ⊎ ((fault ≡ Device) × (length given < 24)) → ⊥
  before_header fault h m d (inl r) = h r
  before_header fault h m d (inr (inl r)) = m r.0
  before_header fault h m d (inr (inr r)) = d r.0

  behind_header : (fault : Fault) → (fault ≡ Device → ⊥) → (fault ≡ CountFull → ⊥) → (before : List Packet)
      → ((fault ≡ Device) × StopsBehind given before) ⊎ ((fault ≡ CountFull) × (length before ≡ 2 ^ 64 - 1)) → ⊥
  behind_header fault d c before (inl r) = d r.0
  behind_header fault d c before (inr r) = c r.0

  not_at : (fault : Fault) → (RefusesHeader text fault → ⊥) → (fault ≡ NoMemory → ⊥) → (fault ≡ Device → ⊥) → (fault ≡ CountFull → ⊥)
      → BrokeOff from back to sink text given program snap order unit (Input fault) sent → ⊥
  not_at fault h m d c (inl s) = before_header fault h m d s.why
  not_at fault h m d c (inr s) = behind_header fault d c s.before s.why

  whole : (end : End) → is_whole end ≡ true → BrokeOff from back to sink text given program snap order unit end sent → ⊥
  whole Clean w b = b
  whole (Input (TornRecord place)) w b = not_at (TornRecord place) (λ r. r) (λ e. cc) (λ e. cc) (λ e. cc) b
  whole (Input (BadFraction place)) w b = not_at (BadFraction place) (λ r. r) (λ e. cc) (λ e. cc) (λ e. cc) b
  whole (Input (TooLong place)) w b = not_at (TooLong place) (λ r. r) (λ e. cc) (λ e. cc) (λ e. cc) b
  whole (Input ShortHeader) w b = cc
  whole (Input NotSavefile) w b = cc
  whole (Input Version) w b = cc
  whole (Input LinkType) w b = cc
  whole (Input Device) w b = cc
  whole (Input Failed) w b = cc
  whole (Input NoMemory) w b = cc
  whole (Input CountFull) w b = cc
  whole (Output fault) w b = cc

module _ {R W : Type 0} (left : R → Option (List ℕ)) (taken : W → Option (List ℕ)) (from : R) (to : W) (program : List Insn) (snap : ℕ) (order : Order) (unit : TimeUnit) (end : CutEnd R W)
    (capture found : List ℕ) (header_snap : ℕ) (header : IsHeader order capture unit header_snap)
    (cuts : Cuts left taken from to program snap order unit end) (w : is_whole end.end ≡ true) where
  sent_all : capture ≡ cuts.text → AllSent cuts.text program snap order unit end.tally end.end cuts.sent ⊎ BrokeOff from end.source to end.sink cuts.text cuts.given program snap order unit end.end cuts.sent
      → WasCut capture program snap cuts.sent end.end
  sent_all is (inl all) = (
    all.fault,
    record {
      packets = all.packets;
      reads = subst (λ (t : List ℕ). IsCapture t all.packets all.fault) (sym is) all.reads;
      order = order;
      unit = unit;
      header_snap = header_snap;
      header = header;
      whole = all.whole;
    },
    all.ends,
  )
  sent_all is (inr broke) = absurd (whole from end.source to end.sink cuts.text cuts.given program snap order unit cuts.sent end.end w broke)

  -- what a sink in memory took is the capture, cut
  pub found_cut : left from ≡ Some capture → taken to ≡ Some [] → taken end.sink ≡ Some found → WasCut capture program snap found end.end
  found_cut begins empty holds =
      let text : capture ≡ cuts.text = subst (λ (o : Option (List ℕ)). IfSome o (λ bytes. bytes ≡ cuts.text)) begins cuts.told in
      let took : Appends (Some []) (taken end.sink) cuts.sent = subst (λ (o : Option (List ℕ)). Appends o (taken end.sink) cuts.sent) empty cuts.took.appends in
      let sent : found ≡ cuts.sent = subst (λ (o : Option (List ℕ)). Appends (Some []) o cuts.sent) holds took in
      subst (λ (s : List ℕ). WasCut capture program snap s end.end) (sym sent) (sent_all text cuts.outcome)
