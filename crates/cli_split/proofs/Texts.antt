-- What sources and sinks say of the texts of files.
use Rattle.std.proofs.Common.{◌≡◌, ◌≢◌, ◌⊎◌, inl, inr, ℕ, ◌+◌, ◌<◌, length, arith, Bool, true, false, List, [], ◌∷◌, ◌++◌, Option, Some, None, IfSome, OnOk, Result, Ok, Err, refl, sym, ◌∙◌, ap, subst, map}
use Rattle.std.specs.List.{AllZip}
use Rattle.std.specs.Io.KnownBytes.{Appends}
use Rattle.bpfvm.specs.declared.insn.Insn.{Insn}
use Rattle.savefile.specs.declared.fault.Fault.{Fault}
use Rattle.savefile.specs.declared.fault.Fault.TheVariants.{Device, CountFull}
use Rattle.savefile.specs.declared.header.Order.{Order}
use Rattle.savefile.specs.declared.header.Unit.{Unit as TimeUnit}
use Rattle.savefile.specs.declared.packet.Packet.{Packet}
use Rattle.savefile.specs.Laws.{WrittenTakesRoom}
use Rattle.savefile.specs.Snapshot.{effective_snaplen}
use Rattle.savefile.specs.Writer.{IsBeginning}
use Rattle.pcap_cut.specs.Cut.{accepted, cut_text}
use Rattle.pcap_cut.specs.Outcome.{IsTally}
use Rattle.pcap_cut.specs.declared.cut.Tally.{Tally}
use Rattle.cli_store.specs.Files.{BeginsAt, StoresAt, Texts}
use Rattle.cli_split.specs.declared.part.Part.{Part}
use Rattle.cli_split.specs.declared.part.PartEnd.{PartEnd}
use Rattle.cli_split.specs.declared.split.Stop.{Stop}
use Rattle.cli_split.specs.declared.split.Stop.TheVariants.{AtHeader, AtRecord}
use Rattle.cli_split.specs.Reading.{EndsSo, ReadsAll, ReadsOne}
use Rattle.cli_split.specs.Splitting.{WritesAll}
use Rattle.cli_split.specs.Texts.{GivesText, HoldsCut, HoldsPart, NotesFailures, ReadsTexts, StaysAt, StopsSo}
use Rattle.cli_split.specs.Writing.{IsLeft, IsSent, IsWritten}
use Rattle.std.proofs.lemmas.List.{append-nil, append_assoc}

-- ---- What is read

module _ {R : Type 0} (left : R → Option (List ℕ)) (failures : R → ℕ) (failed : Bool) where
  read-text : (from to : R) (text : List ℕ) (total n : ℕ) (packets : List Packet) (end : Result (Unit {0}) Stop) → GivesText left failures text from →
      (r : ReadsOne left failures from to total n packets end) → EndsSo text r.given total n packets end
  read-text from to text total n packets end gives r =
      let told : text ≡ r.text = subst (λ l. IfSome l (λ bytes. bytes ≡ r.text)) gives.0 r.told in
      subst (λ t. EndsSo t r.given total n packets end) (sym told) r.ends

  -- the device failed at this stop
  abbrev FailsAt : R → R → ℕ → Stop → Type 0
  FailsAt from to n stop = (stop ≡ AtHeader n Device) ⊎ (stop ≡ AtRecord n Device) → failed ≡ true

  stops : (text given : List ℕ) (total n : ℕ) (packets : List Packet) (from to : R) (stop : Stop) → FailsAt from to n stop →
      EndsSo text given total n packets (Err stop) → StopsSo failed total n text packets stop
  stops text given total n packets from to (AtHeader m fault) broke (is, nothing, inl refuses) = (is, nothing, inl refuses)
  stops text given total n packets from to (AtHeader m fault) broke (is, nothing, inr (inl memory)) = (is, nothing, inr (inl memory))
  stops text given total n packets from to (AtHeader m fault) broke (is, nothing, inr (inr device)) =
      let d = device.0 in (is, nothing, inr (inr (d, broke (inl (cc)))))
  stops text given total n packets from to (AtRecord m fault) broke (is, inl torn) = (is, inl torn)
  stops text given total n packets from to (AtRecord m fault) broke (is, inr (after, record_fault, reads, inl device)) =
      let d = device.0 in (is, inr (after, record_fault, reads, inl (d, broke (inr (cc)))))
  stops text given total n packets from to (AtRecord m fault) broke (is, inr (after, record_fault, reads, inr full)) =
      (is, inr (after, record_fault, reads, inr full))

  abbrev ended : Stop → Result (Unit {0}) Stop
  ended stop = Err stop

  stopped : (from to : R) (text : List ℕ) (total n : ℕ) (packets : List Packet) (stop : Stop) → GivesText left failures text from → (failures to ≢ 0 → failed ≡ true) →
      ReadsOne left failures from to total n packets (Err stop) → StopsSo failed total n text packets stop
  stopped from to text total n packets stop gives noted r =
      let broke : FailsAt from to n stop = λ is. noted (λ zero. r.broke.0 (elim is as (λ _. (ended stop ≡ ended (AtHeader n Device)) ⊎ (ended stop ≡ ended (AtRecord n Device))) [
        | inl at ↦ inl (ap ended at)
        | inr at ↦ inr (ap ended at)
      ]) (zero ∙ sym gives.1)) in
      stops text r.given total n packets from to stop broke (read-text from to text total n packets (Err stop) gives r)

  -- what was read of sources was read of their texts
  pub reads-texts : (total n : ℕ) (texts : List (List ℕ)) (from to : List R) (packets : List Packet) (end : Result (Unit {0}) Stop) → AllZip (GivesText left failures) texts from →
      NotesFailures failures failed to → ReadsAll left failures total n from to packets end → ReadsTexts failed total n texts packets end
  reads-texts total n [] [] [] packets end gives noted reads = reads
  reads-texts total n [] [] (t ∷ ts) packets end gives noted reads = absurd reads
  reads-texts total n [] (s ∷ ss) to packets end gives noted reads = absurd gives
  reads-texts total n (x ∷ xs) [] to packets end gives noted reads = absurd gives
  reads-texts total n (x ∷ xs) (s ∷ ss) [] packets end gives noted reads = absurd reads
  reads-texts total n (x ∷ xs) (s ∷ ss) (t ∷ ts) packets end gives noted (these, more, all, inl (one, others)) =
      (these, more, all, inl (read-text s t x total n these (Ok tt) gives.0 one, reads-texts total (n + 1) xs ss ts more end gives.1 noted.1 others))
  reads-texts total n (x ∷ xs) (s ∷ ss) (t ∷ ts) packets end gives noted (these, more, all, inr (stop, is, one, none, left_out)) =
      let here : ReadsOne left failures s t total n these (Err stop) = subst (λ e. ReadsOne left failures s t total n these e) is one in
      (these, more, all, inr (stop, is, stopped s t x total n these stop gives.0 noted.0 here, none))

-- texts that are made of something else
pub gives-mapped : {P R : Type 0} (left : R → Option (List ℕ)) (failures : R → ℕ) (text : P → List ℕ) (ps : List P) (from : List R) →
    AllZip (λ p s. GivesText left failures (text p) s) ps from → AllZip (GivesText left failures) (map text ps) from
gives-mapped left failures text [] [] gives = tt
gives-mapped left failures text [] (s ∷ ss) gives = absurd gives
gives-mapped left failures text (p ∷ ps) [] gives = absurd gives
gives-mapped left failures text (p ∷ ps) (s ∷ ss) gives = (gives.0, gives-mapped left failures text ps ss gives.1)

-- ---- What is written

-- a cut has a header, so it has bytes
pub cut-has-bytes : WrittenTakesRoom → (program : List Insn) (snap : ℕ) (order : Order) (unit : TimeUnit) (packets : List Packet) → 0 < length (cut_text program snap order unit packets)
unfolding cut_text
cut-has-bytes room program snap order unit packets =
    omega (arith, room order unit (effective_snaplen snap) (accepted program (effective_snaplen snap) packets))

whole-begins : (text : List ℕ) → IsBeginning text text
whole-begins text = ([], sym (append-nil text))

begins-more : (one two three : List ℕ) → IsBeginning one two → IsBeginning two three → IsBeginning one three
begins-more one two three first second =
    (first.0 ++ second.0, second.1 ∙ ap (λ (t : List ℕ). t ++ second.0) first.1 ∙ append_assoc one first.0 second.0)

-- a file that was made of bytes has a beginning of them
pub stored-begins : (old new : Texts) (at sent : List ℕ) → StoresAt old new at sent → BeginsAt old new at sent
stored-begins old new at [] stored = (stored.0, inl (stored.0 refl))
stored-begins old new at (b ∷ bs) stored = (stored.0, inr (b ∷ bs, stored.1 (omega arith), whole-begins (b ∷ bs)))

-- a file that has a beginning of what was sent has a beginning of the whole
begins-whole : (old new : Texts) (at sent whole : List ℕ) → 0 < length whole → IsBeginning sent whole → BeginsAt old new at sent → BeginsAt old new at whole
begins-whole old new at sent [] some begins has = absurd (omega (arith, some))
begins-whole old new at sent (b ∷ bs) some begins has = (
  (λ none. absurd (cc)),
  elim has.1 as (λ _. (new at ≡ old at) ⊎ ((front : List ℕ) × (new at ≡ Some front) × IsBeginning front (b ∷ bs))) [
    | inl same ↦ inl same
    | inr made ↦ inr (made.0, made.1, begins-more made.0 sent (b ∷ bs) made.2 begins)
  ],
)

from-nothing : (b : Option (List ℕ)) (sent : List ℕ) → Appends (Some []) b sent → b ≡ Some sent
from-nothing None sent appends = absurd appends
from-nothing (Some bytes) sent appends = ap Some appends

taken-from-nothing : (a b : Option (List ℕ)) (sent : List ℕ) → a ≡ Some [] → Appends a b sent → b ≡ Some sent
taken-from-nothing a b sent none appends = from-nothing b sent (subst (λ x. Appends x b sent) none appends)

sent-begins : (sent text : List ℕ) (written : Result (Unit {0}) Fault) → IsSent sent text written → IsBeginning sent text
sent-begins sent text (Ok done) is = subst (λ s. IsBeginning s text) (sym is) (whole-begins text)
sent-begins sent text (Err fault) is = is.0

module _ (old new : Texts) (failed : Bool) (at : List ℕ) (program : List Insn) (snap : ℕ) (order : Order) (unit : TimeUnit) (packets : List Packet) (room : WrittenTakesRoom) where
  abbrev text : List ℕ
  text = cut_text program snap order unit packets

  some : 0 < length text
  some = cut-has-bytes room program snap order unit packets

  abbrev Holds : Tally → Result (Unit {0}) Fault → Type 0
  Holds tally written = HoldsCut old new failed at program snap order unit packets tally written

  -- the file got all that was sent
  closed : (tally : Tally) (sent : List ℕ) (written : Result (Unit {0}) Fault) → IsSent sent text written → OnOk written (IsTally program packets tally) →
      StoresAt old new at sent → (written ≡ Err Device → failed ≡ true) → Holds tally written
  closed tally sent (Ok done) is counted stored broke = let whole = subst (StoresAt old new at) is stored in (whole.1 some, counted)
  closed tally sent (Err fault) (begins, inl device) counted stored broke =
      subst (λ f. Holds tally (Err f)) (sym device) (broke (ap Err device), begins-whole old new at sent text some begins (stored-begins old new at sent stored))
  closed tally sent (Err fault) (begins, inr full) counted stored broke =
      subst (λ f. Holds tally (Err f)) (sym full.0) (full.1, begins-whole old new at sent text some begins (stored-begins old new at sent stored))

-- how a part ended, that was begun or not
abbrev pub EndsPart : {W : Type 0} → (W → Option (List ℕ)) → (W → List ℕ) → (W → ℕ) → Order → TimeUnit → List Packet → Bool → Part W → PartEnd W → Type 0
EndsPart taken name failures order unit packets true part end = IsWritten taken name failures order unit packets part end
EndsPart taken name failures order unit packets false part end = IsLeft part end

pub ends-parts : {W : Type 0} (taken : W → Option (List ℕ)) (name : W → List ℕ) (failures : W → ℕ) (order : Order) (unit : TimeUnit) (packets : List Packet) (begun : Bool) (parts : List (Part W)) (ends : List (PartEnd W)) →
    WritesAll taken name failures order unit packets begun parts ends → AllZip (EndsPart taken name failures order unit packets begun) parts ends
ends-parts taken name failures order unit packets true parts ends writes = writes
ends-parts taken name failures order unit packets false parts ends writes = writes

module _ {W : Type 0} (taken : W → Option (List ℕ)) (name : W → List ℕ) (failures : W → ℕ) (old new : Texts) (failed : Bool) (at : List ℕ) (order : Order) (unit : TimeUnit) (packets : List Packet) (room : WrittenTakesRoom)
    (part : Part W) (end : PartEnd W) (nothing : taken part.sink ≡ Some []) where
  -- its file was closed
  pub holds-closed : (begun : Bool) → EndsPart taken name failures order unit packets begun part end → failures part.sink ≡ 0 → IfSome (taken end.sink) (StoresAt old new at) →
      (failures end.sink ≢ 0 → failed ≡ true) → HoldsPart begun old new failed at part.program part.snap order unit packets end.tally end.written
  holds-closed true is works stored broke =
      let took : taken end.sink ≡ Some is.sent = taken-from-nothing (taken part.sink) (taken end.sink) is.sent nothing is.took.appends in
      let all : StoresAt old new at is.sent = subst (λ t. IfSome t (StoresAt old new at)) took stored in
      closed old new failed at part.program part.snap order unit packets room end.tally is.sent end.written is.text is.counted all
      (λ device. broke (λ zero. is.broke.0 device (zero ∙ sym works)))
  holds-closed false is works stored broke =
      let took : taken end.sink ≡ Some [] = ap taken is.sink ∙ nothing in
      let all : StoresAt old new at [] = subst (λ t. IfSome t (StoresAt old new at)) took stored in
      subst (StaysAt old new failed at) (sym is.works) (all.0 refl)

  -- its file could not be closed
  pub holds-broken : (begun : Bool) → EndsPart taken name failures order unit packets begun part end → IfSome (taken end.sink) (BeginsAt old new at) → failed ≡ true →
      HoldsPart begun old new failed at part.program part.snap order unit packets end.tally (Err Device)
  holds-broken true is has broke =
      let took : taken end.sink ≡ Some is.sent = taken-from-nothing (taken part.sink) (taken end.sink) is.sent nothing is.took.appends in
      let all : BeginsAt old new at is.sent = subst (λ t. IfSome t (BeginsAt old new at)) took has in
      let whole = cut_text part.program part.snap order unit packets in
      (broke, begins-whole old new at is.sent whole (cut-has-bytes room part.program part.snap order unit packets) (sent-begins is.sent whole end.written is.text) all)
  holds-broken false is has broke =
      let took : taken end.sink ≡ Some [] = ap taken is.sink ∙ nothing in
      let all : BeginsAt old new at [] = subst (λ t. IfSome t (BeginsAt old new at)) took has in
      (all.0 refl, refl, broke)
