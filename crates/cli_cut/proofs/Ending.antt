-- What is at OUT after a cut.
use Rattle.std.proofs.Common.{◌≡◌, ◌≢◌, ℕ, ◌+◌, ◌-◌, ◌^◌, ◌<◌, ◌≤◌, inl, inr, List, [], ◌∷◌, ◌++◌, length, refl, sym, ◌∙◌, ap, subst, Option, Some, None, IfSome, ◌⊎◌, arith, length-append, append_assoc, Bool, true, false, if◌then◌else◌, ◌==◌, nat_lt, nat_le}
use Rattle.std.proofs.lemmas.List.{append-nil}
use Rattle.std.specs.Io.KnownBytes.{Appends}
use Rattle.savefile.specs.declared.fault.Fault.{Fault}
use Rattle.savefile.specs.declared.fault.Fault.TheVariants.{ShortHeader, NotSavefile, Version, LinkType, TornRecord, BadFraction, TooLong, NoMemory, Device, Failed, CountFull}
use Rattle.savefile.specs.declared.header.Order.{Order}
use Rattle.savefile.specs.declared.header.Unit.{Unit as TimeUnit}
use Rattle.savefile.specs.declared.packet.Packet.{Packet}
use Rattle.savefile.specs.declared.record.TheConstants.{MAX_SNAP}
use Rattle.savefile.specs.Savefile.{captured, first_fault, fraction, per_second, IsCapture, RefusesHeader}
use Rattle.savefile.specs.Snapshot.{effective_snaplen}
use Rattle.savefile.specs.Laws.{WrittenTakesRoom}
use Rattle.savefile.specs.Writer.{IsBeginning}
use Rattle.bpfvm.specs.declared.insn.Insn.{Insn}
use Rattle.pcap_cut.specs.Cut.{accepted, cut_text}
use Rattle.pcap_cut.specs.Outcome.{AllSent, BrokeOff, Cuts, StopsAtHeader, StopsReading, StopsWriting, end_behind}
use Rattle.pcap_cut.specs.declared.cut.CutEnd.{CutEnd}
use Rattle.pcap_cut.specs.declared.cut.End.{End}
use Rattle.pcap_cut.specs.declared.cut.End.TheVariants.{Clean, Input, Output}
use Rattle.pcap_cut.specs.declared.cut.Tally.{Tally}
use Rattle.cli_store.specs.Files.{BeginsAt, StoresAt, Texts}
use Rattle.cli_cut.specs.Cutting.{BrokeOffAt, Ends, HasBegun, IsTooLarge, WrittenAt}

-- the faults of records
abbrev IsRecordFault : Option Fault → Type 0
IsRecordFault None = Unit {0}
IsRecordFault (Some (TornRecord n)) = Unit {0}
IsRecordFault (Some (BadFraction n)) = Unit {0}
IsRecordFault (Some (TooLong n)) = Unit {0}
IsRecordFault (Some other) = ⊥

kinds : (a b c d e : Bool) (place : ℕ) → IsRecordFault (if a then None else if b then Some (TornRecord place) else if c then Some (BadFraction place) else if d then Some (TooLong place) else if e then Some (TornRecord place) else None)
kinds true b c d e place = tt
kinds false true c d e place = tt
kinds false false true d e place = tt
kinds false false false true e place = tt
kinds false false false false true place = tt
kinds false false false false false place = tt

record-fault : (order : Order) (unit : TimeUnit) (place : ℕ) (rest : List ℕ) → IsRecordFault (first_fault order unit place rest)
record-fault order unit place rest =
    kinds (length rest == 0) (nat_lt (length rest) 16) (nat_le (per_second unit) (fraction order rest)) (nat_lt MAX_SNAP (captured order rest)) (nat_lt (length rest) (16 + captured order rest)) place

-- a cut has a header, so it has bytes
cut-has-bytes : WrittenTakesRoom → (program : List Insn) (snap : ℕ) (order : Order) (unit : TimeUnit) (packets : List Packet) → 0 < length (cut_text program snap order unit packets)
unfolding cut_text
cut-has-bytes room program snap order unit packets =
    omega (arith, room order unit (effective_snaplen snap) (accepted program (effective_snaplen snap) packets))

-- ---- A beginning of the cut

whole-begins : (text : List ℕ) → IsBeginning text text
whole-begins text = ([], sym (append-nil text))

begins-more : (one two three : List ℕ) → IsBeginning one two → IsBeginning two three → IsBeginning one three
begins-more one two three first second =
    (first.0 ++ second.0, second.1 ∙ ap (λ (t : List ℕ). t ++ second.0) first.1 ∙ append_assoc one first.0 second.0)

-- a file that has a beginning of what was sent has a beginning of the cut
begun : (old new : Texts) (at text : List ℕ) (program : List Insn) (snap : ℕ) (order : Order) (unit : TimeUnit) (packets others : List Packet) (fault : Option Fault) (sent : List ℕ) →
    IsCapture text (packets ++ others) fault → IsBeginning sent (cut_text program snap order unit packets) → BeginsAt old new at sent → BrokeOffAt old new at text program snap order unit
begun old new at text program snap order unit packets others fault sent reads begins has =
    elim has.1 as (λ _. BrokeOffAt old new at text program snap order unit) [
      | inl same ↦ inl same
      | inr made ↦ inr record {
        packets = packets;
        others = others;
        fault = fault;
        reads = reads;
        front = made.0;
        written = made.1;
        begins = begins-more made.0 sent (cut_text program snap order unit packets) made.2 begins;
      }
    ]

-- a file that was made of bytes has a beginning of them
stored-begins : (old new : Texts) (at sent : List ℕ) → StoresAt old new at sent → BeginsAt old new at sent
stored-begins old new at [] stored = (stored.0, inl (stored.0 refl))
stored-begins old new at (b ∷ bs) stored = (stored.0, inr (b ∷ bs, stored.1 (omega arith), whole-begins (b ∷ bs)))

alone : (text : List ℕ) (packets : List Packet) (fault : Option Fault) → IsCapture text packets fault → IsCapture text (packets ++ []) fault
alone text packets fault reads = subst (λ ps. IsCapture text ps fault) (sym (append-nil packets)) reads

-- ---- OUT was closed

written : (old new : Texts) (at text : List ℕ) (program : List Insn) (snap : ℕ) (order : Order) (unit : TimeUnit) (tally : Tally) (end : End) (sent : List ℕ) →
    (a : AllSent text program snap order unit tally end sent) → StoresAt old new at sent → WrittenTakesRoom → WrittenAt new at text program snap order unit tally a.fault
written old new at text program snap order unit tally end sent a stored room =
    let whole-stored = subst (StoresAt old new at) a.whole stored in
    record { packets = a.packets; reads = a.reads; written = whole-stored.1 (cut-has-bytes room program snap order unit a.packets); counted = a.counted }

all-sent-to : (old new : Texts) (failed : Bool) (at text : List ℕ) (program : List Insn) (snap : ℕ) (order : Order) (unit : TimeUnit) (tally : Tally) (fault : Option Fault) →
    IsRecordFault fault → WrittenAt new at text program snap order unit tally fault → Ends old new failed at text program snap order unit tally (end_behind fault)
all-sent-to old new failed at text program snap order unit tally None is w = w
all-sent-to old new failed at text program snap order unit tally (Some (TornRecord n)) is w = w
all-sent-to old new failed at text program snap order unit tally (Some (BadFraction n)) is w = w
all-sent-to old new failed at text program snap order unit tally (Some (TooLong n)) is w = w
all-sent-to old new failed at text program snap order unit tally (Some other) is w = absurd is

all-sent : (old new : Texts) (failed : Bool) (at text : List ℕ) (program : List Insn) (snap : ℕ) (order : Order) (unit : TimeUnit) (tally : Tally) (end : End) (sent : List ℕ) →
    AllSent text program snap order unit tally end sent → StoresAt old new at sent → WrittenTakesRoom → Ends old new failed at text program snap order unit tally end
all-sent old new failed at text program snap order unit tally end sent a stored room =
    let holds = a.reads.holds in
    let is = subst IsRecordFault (sym holds.ends) (record-fault a.reads.order a.reads.unit (length a.packets) holds.rest) in
    let w = written old new at text program snap order unit tally end sent a stored room in
    subst (λ e. Ends old new failed at text program snap order unit tally e) (sym a.ends) (all-sent-to old new failed at text program snap order unit tally a.fault is w)

-- the header is refused, and the file is as it was
refused : (old new : Texts) (failed : Bool) (at text : List ℕ) (program : List Insn) (snap : ℕ) (order : Order) (unit : TimeUnit) (tally : Tally) (fault : Fault) →
    RefusesHeader text fault → new at ≡ old at → Ends old new failed at text program snap order unit tally (Input fault)
refused old new failed at text program snap order unit tally ShortHeader r same = (r, same)
refused old new failed at text program snap order unit tally NotSavefile r same = (r, same)
refused old new failed at text program snap order unit tally Version r same = (r, same)
refused old new failed at text program snap order unit tally LinkType r same = (r, same)
refused old new failed at text program snap order unit tally other r same = absurd r

at-header : {R W : Type 0} (from back : R) (to sink : W) (old new : Texts) (failed : Bool) (at text given : List ℕ) (program : List Insn) (snap : ℕ) (order : Order) (unit : TimeUnit) (tally : Tally) (fault : Fault) (sent : List ℕ) →
    StopsAtHeader from back to sink text given fault sent → (fault ≡ Device → failed ≡ true) → StoresAt old new at sent → Ends old new failed at text program snap order unit tally (Input fault)
at-header from back to sink old new failed at text given program snap order unit tally fault sent h broke stored =
    let P : Fault → Type 0 = λ f. Ends old new failed at text program snap order unit tally (Input f) in
    let same = stored.0 h.nothing in
    elim h.why as (λ _. Ends old new failed at text program snap order unit tally (Input fault)) [
      | inl r ↦ refused old new failed at text program snap order unit tally fault r same
      | inr other ↦ elim other as (λ _. Ends old new failed at text program snap order unit tally (Input fault)) [
        | inl m ↦ subst P (sym m.0) same
        | inr d ↦ subst P (sym d.0) (broke d.0, inl same)
      ]
    ]

large-by-packets : (text given : List ℕ) (program : List Insn) (snap : ℕ) (order : Order) (unit : TimeUnit) (fault : Fault) (sent : List ℕ) →
    (h : StopsReading text given program snap order unit fault sent) → length h.before ≡ 2 ^ 64 - 1 → IsTooLarge text program snap order unit
large-by-packets text given program snap order unit fault sent h many =
    record { packets = h.before ++ h.after; fault = h.record_fault; reads = h.reads; large = inl (omega (arith, length-append h.before h.after, many)) }

reading-begun : (old new : Texts) (at text given : List ℕ) (program : List Insn) (snap : ℕ) (order : Order) (unit : TimeUnit) (fault : Fault) (sent : List ℕ) →
    StopsReading text given program snap order unit fault sent → BeginsAt old new at sent → BrokeOffAt old new at text program snap order unit
reading-begun old new at text given program snap order unit fault sent h has =
    begun old new at text program snap order unit h.before h.after h.record_fault sent h.reads
    (subst (λ s. IsBeginning s (cut_text program snap order unit h.before)) (sym h.whole) (whole-begins (cut_text program snap order unit h.before))) has

reading : (old new : Texts) (failed : Bool) (at text given : List ℕ) (program : List Insn) (snap : ℕ) (order : Order) (unit : TimeUnit) (tally : Tally) (fault : Fault) (sent : List ℕ) →
    StopsReading text given program snap order unit fault sent → (fault ≡ Device → failed ≡ true) → BeginsAt old new at sent → Ends old new failed at text program snap order unit tally (Input fault)
reading old new failed at text given program snap order unit tally fault sent h broke has =
    let P : Fault → Type 0 = λ f. Ends old new failed at text program snap order unit tally (Input f) in
    let off = reading-begun old new at text given program snap order unit fault sent h has in
    elim h.why as (λ _. Ends old new failed at text program snap order unit tally (Input fault)) [
      | inl d ↦ subst P (sym d.0) (broke d.0, off)
      | inr many ↦ subst P (sym many.0) (large-by-packets text given program snap order unit fault sent h many.1, off)
    ]

writing-begun : (old new : Texts) (at text : List ℕ) (program : List Insn) (snap : ℕ) (order : Order) (unit : TimeUnit) (fault : Fault) (sent : List ℕ) →
    StopsWriting text program snap order unit fault sent → BeginsAt old new at sent → BrokeOffAt old new at text program snap order unit
writing-begun old new at text program snap order unit fault sent h has =
    begun old new at text program snap order unit h.packets [] h.record_fault sent (alone text h.packets h.record_fault h.reads) h.begins has

writing : (old new : Texts) (failed : Bool) (at text : List ℕ) (program : List Insn) (snap : ℕ) (order : Order) (unit : TimeUnit) (tally : Tally) (fault : Fault) (sent : List ℕ) →
    StopsWriting text program snap order unit fault sent → (fault ≡ Device → failed ≡ true) → BeginsAt old new at sent → Ends old new failed at text program snap order unit tally (Output fault)
writing old new failed at text program snap order unit tally fault sent h broke has =
    let P : Fault → Type 0 = λ f. Ends old new failed at text program snap order unit tally (Output f) in
    let off = writing-begun old new at text program snap order unit fault sent h has in
    elim h.why as (λ _. Ends old new failed at text program snap order unit tally (Output fault)) [
      | inl d ↦ subst P (sym d) (broke d, off)
      | inr long ↦ subst P (sym long.0) (record { packets = h.packets; fault = h.record_fault; reads = h.reads; large = inr long.1 }, off)
    ]

-- the device of IN or of OUT failed
abbrev Fails : End → Bool → Type 0
Fails Clean failed = Unit {0}
Fails (Input fault) failed = fault ≡ Device → failed ≡ true
Fails (Output fault) failed = fault ≡ Device → failed ≡ true

fails : (end : End) (failed : Bool) → (end ≡ Input Device → failed ≡ true) → (end ≡ Output Device → failed ≡ true) → Fails end failed
fails Clean failed of_input of_output = tt
fails (Input fault) failed of_input of_output = λ is. of_input (ap Input is)
fails (Output fault) failed of_input of_output = λ is. of_output (ap Output is)

broke-off : {R W : Type 0} (from back : R) (to sink : W) (old new : Texts) (failed : Bool) (at text given : List ℕ) (program : List Insn) (snap : ℕ) (order : Order) (unit : TimeUnit) (tally : Tally) (end : End) (sent : List ℕ) →
    BrokeOff from back to sink text given program snap order unit end sent → Fails end failed → StoresAt old new at sent → Ends old new failed at text program snap order unit tally end
broke-off from back to sink old new failed at text given program snap order unit tally Clean sent b broke stored = absurd b
broke-off from back to sink old new failed at text given program snap order unit tally (Input fault) sent (inl h) broke stored =
    at-header from back to sink old new failed at text given program snap order unit tally fault sent h broke stored
broke-off from back to sink old new failed at text given program snap order unit tally (Input fault) sent (inr h) broke stored =
    reading old new failed at text given program snap order unit tally fault sent h broke (stored-begins old new at sent stored)
broke-off from back to sink old new failed at text given program snap order unit tally (Output fault) sent h broke stored =
    writing old new failed at text program snap order unit tally fault sent h broke (stored-begins old new at sent stored)

-- ---- OUT could not be closed

all-begun : (old new : Texts) (at text : List ℕ) (program : List Insn) (snap : ℕ) (order : Order) (unit : TimeUnit) (tally : Tally) (end : End) (sent : List ℕ) →
    AllSent text program snap order unit tally end sent → BeginsAt old new at sent → BrokeOffAt old new at text program snap order unit
all-begun old new at text program snap order unit tally end sent a has =
    begun old new at text program snap order unit a.packets [] a.fault sent (alone text a.packets a.fault a.reads)
    (subst (λ s. IsBeginning s (cut_text program snap order unit a.packets)) (sym a.whole) (whole-begins (cut_text program snap order unit a.packets))) has

off-begun : {R W : Type 0} (from back : R) (to sink : W) (old new : Texts) (at text given : List ℕ) (program : List Insn) (snap : ℕ) (order : Order) (unit : TimeUnit) (end : End) (sent : List ℕ) →
    BrokeOff from back to sink text given program snap order unit end sent → BeginsAt old new at sent → BrokeOffAt old new at text program snap order unit
off-begun from back to sink old new at text given program snap order unit Clean sent b has = absurd b
off-begun from back to sink old new at text given program snap order unit (Input fault) sent (inl h) has = inl (has.0 h.nothing)
off-begun from back to sink old new at text given program snap order unit (Input fault) sent (inr h) has =
    reading-begun old new at text given program snap order unit fault sent h has
off-begun from back to sink old new at text given program snap order unit (Output fault) sent h has =
    writing-begun old new at text program snap order unit fault sent h has

-- ---- What a sink that was empty took

from-nothing : (b : Option (List ℕ)) (sent : List ℕ) → Appends (Some []) b sent → b ≡ Some sent
from-nothing None sent appends = absurd appends
from-nothing (Some bytes) sent appends = ap Some appends

taken-from-nothing : (a b : Option (List ℕ)) (sent : List ℕ) → a ≡ Some [] → Appends a b sent → b ≡ Some sent
taken-from-nothing a b sent none appends = from-nothing b sent (subst (λ x. Appends x b sent) none appends)

-- a cut of a text into a file that was empty, which then got what it took
pub ends-at : {R W : Type 0} (left : R → Option (List ℕ)) (taken : W → Option (List ℕ)) (from : R) (to : W) (program : List Insn) (snap : ℕ) (order : Order) (unit : TimeUnit) (e : CutEnd R W) →
    Cuts left taken from to program snap order unit e → (text : List ℕ) → left from ≡ Some text → taken to ≡ Some [] →
    (old new : Texts) (failed : Bool) (at : List ℕ) → IfSome (taken e.sink) (StoresAt old new at) → WrittenTakesRoom →
    (e.end ≡ Input Device → failed ≡ true) → (e.end ≡ Output Device → failed ≡ true) →
    Ends old new failed at text program snap order unit e.tally e.end
ends-at left taken from to program snap order unit e c text has none old new failed at stored room of_input of_output =
    let told : text ≡ c.text = subst (λ l. IfSome l (λ bytes. bytes ≡ c.text)) has c.told in
    let took : taken e.sink ≡ Some c.sent = taken-from-nothing (taken to) (taken e.sink) c.sent none c.took.appends in
    let all : StoresAt old new at c.sent = subst (λ t. IfSome t (StoresAt old new at)) took stored in
    subst (λ t. Ends old new failed at t program snap order unit e.tally e.end) (sym told)
    (elim c.outcome as (λ _. Ends old new failed at c.text program snap order unit e.tally e.end) [
      | inl a ↦ all-sent old new failed at c.text program snap order unit e.tally e.end c.sent a all room
      | inr b ↦ broke-off from e.source to e.sink old new failed at c.text c.given program snap order unit e.tally e.end c.sent b (fails e.end failed of_input of_output) all
    ])

-- the same of a file that could not be closed
pub breaks-at : {R W : Type 0} (left : R → Option (List ℕ)) (taken : W → Option (List ℕ)) (from : R) (to : W) (program : List Insn) (snap : ℕ) (order : Order) (unit : TimeUnit) (e : CutEnd R W) →
    Cuts left taken from to program snap order unit e → (text : List ℕ) → left from ≡ Some text → taken to ≡ Some [] →
    (old new : Texts) (at : List ℕ) → IfSome (taken e.sink) (BeginsAt old new at) → BrokeOffAt old new at text program snap order unit
breaks-at left taken from to program snap order unit e c text has none old new at begins =
    let told : text ≡ c.text = subst (λ l. IfSome l (λ bytes. bytes ≡ c.text)) has c.told in
    let took : taken e.sink ≡ Some c.sent = taken-from-nothing (taken to) (taken e.sink) c.sent none c.took.appends in
    let all : BeginsAt old new at c.sent = subst (λ t. IfSome t (BeginsAt old new at)) took begins in
    subst (λ t. BrokeOffAt old new at t program snap order unit) (sym told)
    (elim c.outcome as (λ _. BrokeOffAt old new at c.text program snap order unit) [
      | inl a ↦ all-begun old new at c.text program snap order unit e.tally e.end c.sent a all
      | inr b ↦ off-begun from e.source to e.sink old new at c.text c.given program snap order unit e.end c.sent b all
    ])
