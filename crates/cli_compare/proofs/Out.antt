-- What OUT has after a packet was written to it.
use Rattle.std.proofs.Common.{◌≡◌, ◌≢◌, ℕ, ◌^◌, ◌<◌, ◌⊎◌, inl, inr, Bool, true, List, [], ◌∷◌, ◌++◌, length, length-append, Option, Some, None, IfSome, Result, Ok, Err, IfErr, refl, sym, ap, subst, ◌∙◌, arith, Bor}
use Rattle.std.specs.Prelude.{OnOk, OnErr}
use Rattle.std.specs.Io.KnownBytes.{Appends}
use Rattle.std.specs.declared.io.Error.{Error}
use Rattle.std.proofs.lemmas.List.{append-nil}
use Rattle.savefile.specs.declared.fault.Fault.{Fault}
use Rattle.savefile.specs.declared.fault.Fault.TheVariants.{Device, TooLong}
use Rattle.savefile.specs.declared.header.Order.TheVariants.{Little}
use Rattle.savefile.specs.declared.header.Unit.TheVariants.{Micro}
use Rattle.savefile.specs.declared.packet.Packet.{Packet}
use Rattle.savefile.specs.Savefile.{encoded}
use Rattle.savefile.specs.Writer.{IsBeginning}
use Rattle.savefile.proofs.Encoding.{encoded-begins}
use Rattle.filter_same.specs.declared.sameness.Sameness.{Sameness}
use Rattle.filter_same.specs.declared.witness.Witness.{Witness}
use Rattle.line_text.specs.Sending.{TakesPart}
use Rattle.cli_text.specs.Status.{greater}
use Rattle.cli_text.specs.declared.status.Status.{Status}
use Rattle.fault_report.specs.declared.report.Report.{Report}
use Rattle.cli_store.specs.Files.{BeginsAt, Places, StoresAt, Texts}
use Rattle.cli_args.specs.declared.compare.CompareWords.{CompareWords}
use Rattle.cli_answers.specs.declared.printing.Unprinted.{Unprinted}
use Rattle.cli_compare.specs.declared.outcome.OutFault.{OutFault}
use Rattle.cli_compare.specs.declared.pair.FilterPair.{FilterPair}
use Rattle.cli_compare.specs.Deciding.{answer_status, packet_of_witness}
use Rattle.cli_compare.specs.Telling.{TellsOut}
use Rattle.cli_compare.specs.Comparing.{BrokeOffAt, DecidesPair, IsOut, IsOutStatus, KeepsOthers, WritesPacket, out_of, savefile_of}
use Rattle.cli_compare.proofs.Sent.{begins_through, header-size}

-- ---- The bytes of OUT

-- a savefile has its header
savefile-has-bytes : (p : Packet) → 0 < length (encoded Little Micro (2 ^ 18) (p ∷ []))
savefile-has-bytes p =
    let (more, is) = encoded-begins Little Micro (2 ^ 18) [] (p ∷ []) in
    omega (arith, ap length is ∙ length-append (encoded Little Micro (2 ^ 18) []) more, header-size)

-- a file that was made of all bytes has them
stored-whole : (after : Option (List ℕ)) (old new : Texts) (at whole : List ℕ) → Appends (Some []) after whole → 0 < length whole → IfSome after (StoresAt old new at) → new at ≡ Some whole
stored-whole None old new at whole appends long stored = absurd appends
stored-whole (Some bytes) old new at whole appends long stored =
    stored.1 (subst (λ (b : List ℕ). 0 < length b) (sym appends) long) ∙ ap Some appends

-- what was sent whole was sent in part
sent-part : {A : Type 0} (before after : Option (List ℕ)) (whole : List ℕ) (result : Result A Fault) → OnOk result (Appends before after whole) → OnErr result (TakesPart before after whole) → TakesPart before after whole
sent-part before after whole (Ok done) all part = record { part = whole; begins = ([], sym (append-nil whole)); appends = all }
sent-part before after whole (Err fault) all part = part

-- a file that has a beginning of a part has a beginning of the whole
begun-part : (after : Option (List ℕ)) (old new : Texts) (at whole : List ℕ) → TakesPart (Some []) after whole → IfSome after (BeginsAt old new at) → BrokeOffAt old new at whole
begun-part None old new at whole part begun = absurd part.appends
begun-part (Some bytes) old new at whole part begun =
    elim begun.1 as (λ _. BrokeOffAt old new at whole) [
      | inl same ↦ inl same
      | inr made ↦ inr (made.0, made.1, begins_through made.0 bytes whole made.2 (subst (λ (b : List ℕ). IsBeginning b whole) (sym part.appends) part.begins))
    ]

-- OUT, by how it was closed and how its savefile was written
pub out-is : (after : Option (List ℕ)) (old new : Texts) (failed : Bool) (at : List ℕ) (w : Witness) (closed : Result (Unit {0}) Error) (written : Result (Unit {0}) Fault) →
    OnOk written (Appends (Some []) after (savefile_of w)) → OnErr written (TakesPart (Some []) after (savefile_of w)) →
    IfErr written (λ fault. (fault ≡ Device) ⊎ (fault ≡ TooLong 0)) → (written ≡ Err Device → failed ≡ true) → (written ≡ Err (TooLong 0) → 2 ^ 18 < length w.bytes.items) →
    OnOk closed (IfSome after (StoresAt old new at)) → IfSome after (BeginsAt old new at) → IfErr closed (λ error. failed ≡ true) →
    IsOut old new failed at w (out_of closed written)
out-is after old new failed at w (Ok c) (Ok x) all part only device long stored begun broke =
    stored-whole after old new at (savefile_of w) all (savefile-has-bytes (packet_of_witness w)) stored
out-is after old new failed at w (Ok c) (Err fault) all part only device long stored begun broke = (
  begun-part after old new at (savefile_of w) part begun,
  elim only as (λ _. (failed ≡ true) ⊎ (2 ^ 18 < length w.bytes.items)) [
    | inl is ↦ inl (device (ap Err is))
    | inr is ↦ inr (long (ap Err is))
  ],
)
out-is after old new failed at w (Err error) written all part only device long stored begun broke =
    (begun-part after old new at (savefile_of w) (sent-part (Some []) after (savefile_of w) written all part) begun, inl broke)

-- ---- The status

-- a packet was written to OUT
pub writes-one : (place : Places) (old new : Texts) (failed : Bool) (output : Option (Bor (List ℕ))) (packet : Option Witness) (answer : Result Sameness Unprinted) (among : (Report → Type 0) → Type 0) (path : Bor (List ℕ)) (w : Witness) (wrote : Result (Unit {0}) OutFault) (status ended : Status) →
    output ≡ Some path → packet ≡ Some w → IsOut old new failed (place path.now) w wrote → IsOutStatus wrote status → TellsOut among path wrote → ended ≡ greater (answer_status answer) status →
    WritesPacket place old new failed output packet answer among ended
writes-one place old new failed output packet answer among path w wrote status ended asked shown is ends told greatest =
    rw (asked, shown) (wrote, status, is, ends, told, greatest)

-- or there is no OUT
pub writes-nowhere : (place : Places) (old new : Texts) (failed : Bool) (output : Option (Bor (List ℕ))) (packet : Option Witness) (answer : Result Sameness Unprinted) (among : (Report → Type 0) → Type 0) (ended : Status) →
    output ≡ None → new ≡ old → ended ≡ answer_status answer → WritesPacket place old new failed output packet answer among ended
writes-nowhere place old new failed output packet answer among ended asked same is = rw asked (same, is)

-- or no packet
pub writes-none : (place : Places) (old new : Texts) (failed : Bool) (output : Option (Bor (List ℕ))) (packet : Option Witness) (answer : Result Sameness Unprinted) (among : (Report → Type 0) → Type 0) (ended : Status) →
    packet ≡ None → new ≡ old → ended ≡ answer_status answer → WritesPacket place old new failed output packet answer among ended
writes-none place old new failed None packet answer among ended shown same is = (same, is)
writes-none place old new failed (Some output) packet answer among ended shown same is = rw shown (same, is)

-- ---- Which files changed

-- none did, so none but OUT did
pub keeps-others : (place : Places) (old new : Texts) (output : Option (Bor (List ℕ))) → new ≡ old → KeepsOthers place old new output
keeps-others place old new None same = same
keeps-others place old new (Some output) same = λ p other. ap (λ (text : Texts). text p) same

-- none but the file at the path of OUT did
pub keeps-but : (place : Places) (old new : Texts) (output : Option (Bor (List ℕ))) (path : Bor (List ℕ)) → output ≡ Some path → ((p : List ℕ) → p ≢ place path.now → new p ≡ old p) → KeepsOthers place old new output
keeps-but place old new output path is others = rw is others

-- the same of files that were as they are here
pub others-before : (place here : Places) (old text new : Texts) (output : Option (Bor (List ℕ))) → here ≡ place → text ≡ old → KeepsOthers here text new output → KeepsOthers place old new output
others-before place here old text new output leads has others =
    subst (λ (p : Places). KeepsOthers p old new output) leads (subst (λ (t : Texts). KeepsOthers here t new output) has others)

pub decides-before : (place here : Places) (old text new : Texts) (failed : Bool) (words : CompareWords) (pair : FilterPair) (among : (Report → Type 0) → Type 0) (out-old out-new : Option (List ℕ)) (ended : Status) → here ≡ place → text ≡ old →
    DecidesPair here text new failed words pair among out-old out-new ended → DecidesPair place old new failed words pair among out-old out-new ended
decides-before place here old text new failed words pair among out-old out-new ended leads has decides =
    subst (λ (p : Places). DecidesPair p old new failed words pair among out-old out-new ended) leads
    (subst (λ (t : Texts). DecidesPair here t new failed words pair among out-old out-new ended) has decides)
