-- How a cut that came to its end was one.
use Rattle.std.proofs.Common.{◌≡◌, ℕ, ◌<◌, inl, inr, List, [], ◌++◌, length, refl, sym, ◌∙◌, subst, Option, Some, None, IfSome, unwrap_or, ◌⊎◌}
use Rattle.std.proofs.lemmas.List.{append-nil}
use Rattle.std.specs.Io.KnownBytes.{Appends, Consumes}
use Rattle.savefile.specs.declared.fault.Fault.{Fault}
use Rattle.savefile.specs.declared.fault.Fault.TheVariants.{Device, NoMemory}
use Rattle.savefile.specs.declared.header.Header.{Header}
use Rattle.savefile.specs.declared.header.Order.{Order}
use Rattle.savefile.specs.declared.header.Unit.{Unit as TimeUnit}
use Rattle.savefile.specs.declared.packet.Packet.{Packet}
use Rattle.savefile.specs.declared.writing.Writer.{Writer}
use Rattle.savefile.specs.Reader.{WasRead, WasRefused, WasTaken}
use Rattle.savefile.specs.Savefile.{encoded, IsCapture}
use Rattle.savefile.specs.Writer.{IsBeginning, Sent}
use Rattle.bpfvm.specs.declared.insn.Insn.{Insn}
use Rattle.pcap_cut.specs.declared.cut.End.{End}
use Rattle.pcap_cut.specs.declared.cut.End.TheVariants.{Clean, Input, Output}
use Rattle.pcap_cut.specs.declared.cut.Tally.{Tally}
use Rattle.pcap_cut.specs.Copying.{Copied}
use Rattle.savefile.specs.Snapshot.{effective_snaplen}
use Rattle.pcap_cut.specs.Cut.{accepted, cut_text}
use Rattle.pcap_cut.specs.Outcome.{AllSent, BrokeOff, StopsBehind, Took}
use Rattle.pcap_cut.proofs.Accepted.{accepted-append}
use Rattle.pcap_cut.proofs.Writing.{goes-further}

-- nothing was taken
nothing-appended : (taken : Option (List ℕ)) → Appends taken taken []
nothing-appended None = tt
nothing-appended (Some bytes) = sym (append-nil bytes)

-- the text that a source has left, if it is known
pub told-text : (left : Option (List ℕ)) → IfSome left (λ bytes. bytes ≡ unwrap_or left [])
told-text None = tt
told-text (Some bytes) = refl

-- what the source had left and gave, what the sink took, and the outcome
abbrev pub IsOutcome : {R W : Type 0} → (R → Option (List ℕ)) → (W → Option (List ℕ)) → R → R → W → W → ℕ → List Insn → ℕ → Order → TimeUnit → Tally → End → Type 0
IsOutcome left taken from back to sink count program snap order unit tally end =
    (text : List ℕ) × IfSome (left from) (λ bytes. bytes ≡ text) × (given : List ℕ) × Consumes (left from) (left back) given
    × (sent : List ℕ) × Took taken to sink count sent
    × (AllSent text program snap order unit tally end sent ⊎ BrokeOff from back to sink text given program snap order unit end sent)

-- a reader read the text
pub is-read : (from : Option (List ℕ)) (header : Header) (packets : List Packet) (fault : Option Fault) (w : WasRead from header packets fault) → IsCapture w.text packets fault
is-read from header packets fault w = record { order = header.order; unit = header.unit; snap = header.snap; holds = w.holds }

-- what was taken stops after the packets that a reader gave
pub stops-behind : (from left : Option (List ℕ)) (header : Header) (packets : List Packet) (w : WasTaken from left header packets) → StopsBehind w.text packets
stops-behind from left header packets w =
    record { order = header.order; unit = header.unit; snap = header.snap; rest = w.rest; reads = w.reads; no_more = w.no_more }

-- what the closed writer's sink took
pub took : {W : Type 0} (taken : W → Option (List ℕ)) (to sink : W) (count : ℕ) (sent : List ℕ) (writer : Writer W) → sink ≡ writer.sink → count ≡ writer.sent → Sent taken (taken to) sent writer → Took taken to sink count sent
took taken to sink count sent writer is told s =
    record { appends = subst (λ x. Appends (taken to) (taken x) sent) (sym is) s.bytes; counts = told ∙ s.count }

-- the header was not read
pub unread-outcome : {R W : Type 0} (left : R → Option (List ℕ)) (taken : W → Option (List ℕ)) (from back : R) (to : W) (program : List Insn) (snap : ℕ) (order : Order) (unit : TimeUnit) (tally : Tally) (fault : Fault) →
    WasRefused (left from) fault ⊎ (fault ≡ Device) ⊎ (fault ≡ NoMemory) → (fault ≡ NoMemory → back ≡ from) →
    (given : List ℕ) × Consumes (left from) (left back) given × (fault ≡ Device → length given < 24) →
    IsOutcome left taken from back to to 0 program snap order unit tally (Input fault)
unread-outcome left taken from back to program snap order unit tally fault (inl w) kept (given, gave, short) = (
  w.text,
  w.told,
  given,
  gave,
  [],
  record { appends = nothing-appended (taken to); counts = refl },
  inr (inl (record { why = inl w.refused; untouched = refl; nothing = refl })),
)
unread-outcome left taken from back to program snap order unit tally fault (inr (inl broke)) kept (given, gave, short) = (
  unwrap_or (left from) [],
  told-text (left from),
  given,
  gave,
  [],
  record { appends = nothing-appended (taken to); counts = refl },
  inr (inl (record { why = inr (inr (broke, short broke)); untouched = refl; nothing = refl })),
)
unread-outcome left taken from back to program snap order unit tally fault (inr (inr wanting)) kept (given, gave, short) = (
  unwrap_or (left from) [],
  told-text (left from),
  given,
  gave,
  [],
  record { appends = nothing-appended (taken to); counts = refl },
  inr (inl (record { why = inr (inl (wanting, kept wanting)); untouched = refl; nothing = refl })),
)

-- what the law of the growing text says
abbrev pub Growing : Type 0
Growing = (order : Order) (unit : TimeUnit) (snap : ℕ) (packets more : List Packet) (text : List ℕ) → IsBeginning text (encoded order unit snap packets) → IsBeginning text (encoded order unit snap (packets ++ more))

-- the packets were copied up to this end
pub copied-outcome : {R W : Type 0} (left : R → Option (List ℕ)) (taken : W → Option (List ℕ)) (from back : R) (header : Header) (to sink : W) (count : ℕ) (program : List Insn) (snap : ℕ) (order : Order) (unit : TimeUnit) (tally : Tally) (end : End) (writer : Writer W) →
    Growing → sink ≡ writer.sink → count ≡ writer.sent → (given : List ℕ) × Consumes (left from) (left back) given →
    Copied taken (left from) (left back) header (taken to) order unit (effective_snaplen snap) program (effective_snaplen snap) tally end writer →
    IsOutcome left taken from back to sink count program snap order unit tally end
unfolding cut_text
copied-outcome left taken from back header to sink count program snap order unit tally Clean writer growing is told (given, gave) (packets, w, written, counted) = (
  w.text,
  w.told,
  given,
  gave,
  cut_text program snap order unit packets,
  took taken to sink count _ writer is told written.sent,
  inl (record { packets = packets; fault = None; reads = is-read (left from) header packets None w; ends = refl; whole = refl; counted = counted }),
)
copied-outcome left taken from back header to sink count program snap order unit tally (Input fault) writer growing is told (given, gave) (packets, written, counted, inl w) = (
  w.text,
  w.told,
  given,
  gave,
  cut_text program snap order unit packets,
  took taken to sink count _ writer is told written.sent,
  inl (record { packets = packets; fault = Some fault; reads = is-read (left from) header packets (Some fault) w; ends = refl; whole = refl; counted = counted }),
)
copied-outcome left taken from back header to sink count program snap order unit tally (Input fault) writer growing is told _ (packets, written, counted, inr ((more, record_fault, w), inl (broke, t))) = (
  w.text,
  w.told,
  t.text,
  t.taken,
  cut_text program snap order unit packets,
  took taken to sink count _ writer is told written.sent,
  inr (inr (record {
    before = packets;
    after = more;
    record_fault = record_fault;
    reads = is-read (left from) header (packets ++ more) record_fault w;
    whole = refl;
    why = inl (broke, stops-behind (left from) (left back) header packets t);
  })),
)
copied-outcome left taken from back header to sink count program snap order unit tally (Input fault) writer growing is told (given, gave) (packets, written, counted, inr ((more, record_fault, w), inr full)) = (
  w.text,
  w.told,
  given,
  gave,
  cut_text program snap order unit packets,
  took taken to sink count _ writer is told written.sent,
  inr (inr (record {
    before = packets;
    after = more;
    record_fault = record_fault;
    reads = is-read (left from) header (packets ++ more) record_fault w;
    whole = refl;
    why = inr full;
  })),
)
copied-outcome left taken from back header to sink count program snap order unit tally (Output fault) writer growing is told (given, gave) (packets, (more, record_fault, w), wrote) =
    let further = goes-further taken (taken to) order unit (effective_snaplen snap) (accepted program (effective_snaplen snap) packets) (accepted program (effective_snaplen snap) more) fault writer (growing order unit (effective_snaplen snap) _ _) wrote in
    let (sent, sends, begins, why) = rw (sym (accepted-append program (effective_snaplen snap) packets more)) at further in (
      w.text,
      w.told,
      given,
      gave,
      sent,
      took taken to sink count sent writer is told sends,
      inr (record {
        packets = packets ++ more;
        record_fault = record_fault;
        reads = is-read (left from) header (packets ++ more) record_fault w;
        begins = begins;
        why = why;
      }),
    )
