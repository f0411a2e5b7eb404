-- The steps of a reader.
use Rattle.std.proofs.Common.{◌≡◌, ◌≢◌, ◌↔◌, ℕ, zero, suc, ◌+◌, ◌-◌, ◌*◌, ◌%◌, ◌^◌, ◌<◌, ◌≤◌, ◌⊎◌, inl, inr, Bool, true, false, cond, List, [], ◌∷◌, ◌++◌, length, take, drop, Option, Some, None, IfSome, Result, Err, nat_lt, nat_le, ◌==◌, refl, sym, ap, subst, ◌∙◌, append_assoc, arith, length-append, length-take}
use Rattle.std.proofs.KnownBytes.{Consumes-trans}
use Rattle.std.proofs.lemmas.Bool.{eqb-true, le-ltb, lt-leb, lt-ltb, ne_eqb}
use Rattle.std.proofs.lemmas.List.{append-nil, nil_from_length}
use Rattle.std.specs.Io.KnownBytes.{IsAtEnd}
use Rattle.savefile.specs.declared.header.Order.{Order}
use Rattle.savefile.specs.declared.ahead.Ahead.{Ahead}
use Rattle.savefile.specs.declared.fault.Fault.{Fault}
use Rattle.savefile.specs.declared.fault.Fault.TheVariants.{ShortHeader, NotSavefile, Version, LinkType, TornRecord, BadFraction, TooLong, NoMemory, Device, Failed, CountFull}
use Rattle.savefile.specs.declared.header.Unit.{Unit as TimeUnit}
use Rattle.savefile.specs.declared.record.RecordHeader.{RecordHeader}
use Rattle.savefile.specs.declared.header.Header.{Header}
use Rattle.savefile.specs.declared.packet.Packet.{Packet}
use Rattle.savefile.specs.Ahead.{waiting_in, Grows}
use Rattle.savefile.specs.Passing.{MeetsFault}
use Rattle.savefile.specs.Reader.{Leaves, Reading}
use Rattle.savefile.specs.RecordHeader.{IsRecordHeader}
use Rattle.savefile.specs.Savefile.{captured, field, first_fault, fraction, nanos_in, packet, per_second, IsRecord, IsWritable, NoRecord}
use Rattle.savefile.proofs.Pieces.{field-front, known_rest, length-slice_range}

-- how many bytes wait
pub length-waiting : {R : Type 0} (a : Ahead R) → length (waiting_in a) ≡ a.end - a.start
length-waiting a = length-slice_range a.memory.items a.start a.end (omega arith) (omega arith)

-- more bytes were taken, and then more again
pub Grows-trans : {R : Type 0} (left : R → Option (List ℕ)) (a b c : Ahead R) → Grows left a b → Grows left b c → Grows left a c
Grows-trans left a b c p q = (
  p.0 ++ q.0,
  q.1 ∙ ap (λ (t : List ℕ). t ++ q.0) p.1 ∙ append_assoc _ p.0 q.0,
  Consumes-trans (left a.source) (left b.source) (left c.source) p.0 q.0 p.2 q.2,
)

-- a fault in what was read stands in the whole text
pub fault_stands : (order : Order) (unit : TimeUnit) (place : ℕ) (text waiting : List ℕ) (left : Option (List ℕ)) (fault : Fault) → text ≡ waiting
    → (16 ≤ length waiting) ⊎ IsAtEnd left → ((more : List ℕ) → (16 ≤ length text) ⊎ (more ≡ []) → first_fault order unit place (text ++ more) ≡ Some fault)
    → (rest : List ℕ) × IfSome left (λ bytes. bytes ≡ rest) × (first_fault order unit place (waiting ++ rest) ≡ Some fault)
fault_stands order unit place text waiting left fault is enough h =
    let known = known_rest left (16 ≤ length waiting) enough in
    (known.0, known.1, subst (λ (t : List ℕ). first_fault order unit place (t ++ known.0) ≡ Some fault) is (h known.0 (subst (λ (t : List ℕ). (16 ≤ length t) ⊎ (known.0 ≡ [])) (sym is) known.2)))

-- nothing is left where nothing waits after so much was wanted
pub end_met : (text waiting : List ℕ) (left : Option (List ℕ)) → text ≡ waiting → (length text == 0) ≡ true → (16 ≤ length waiting) ⊎ IsAtEnd left → (waiting ≡ []) × IsAtEnd left
end_met text waiting left is none enough =
    let empty : length waiting ≡ 0 = sym (ap length is) ∙ eqb-true (length text) 0 none in
    (nil_from_length waiting empty, elim enough [ inl many ↦ absurd (omega (arith, many, empty)) | inr end ↦ end ])

-- ---- Faults of a text are no faults of a device

-- whatever stands in the text
no_device : (none torn bad long cut : Bool) (place : ℕ) →
    cond none None (cond torn (Some (TornRecord place)) (cond bad (Some (BadFraction place)) (cond long (Some (TooLong place)) (cond cut (Some (TornRecord place)) None)))) ≡ Some Device → ⊥
no_device true torn bad long cut place e = cc
no_device false true bad long cut place e = cc
no_device false false true long cut place e = cc
no_device false false false true cut place e = cc
no_device false false false false true place e = cc
no_device false false false false false place e = cc

-- the first fault of a rest is none of a device
first_fault-no_device : (order : Order) (unit : TimeUnit) (place : ℕ) (rest : List ℕ) → first_fault order unit place rest ≡ Some Device → ⊥
first_fault-no_device order unit place rest =
    no_device (length rest == 0) (nat_lt (length rest) 16) (nat_le (per_second unit) (fraction order rest)) (nat_lt 262144 (captured order rest))
    (nat_lt (length rest) (16 + captured order rest)) place

-- a fault that stands in a text is none
pub stands-no_device : (order : Order) (unit : TimeUnit) (place : ℕ) (waiting : List ℕ) (left : Option (List ℕ)) (fault : Fault)
    → ((rest : List ℕ) × IfSome left (λ bytes. bytes ≡ rest) × (first_fault order unit place (waiting ++ rest) ≡ Some fault)) → fault ≡ Device → ⊥
stands-no_device order unit place waiting left fault s device = first_fault-no_device order unit place (waiting ++ s.0) (s.2 ∙ ap Some device)

-- which faults stand in a text
which_fault : (none torn bad long cut : Bool) (place : ℕ) (fault : Fault) →
    cond none None (cond torn (Some (TornRecord place)) (cond bad (Some (BadFraction place)) (cond long (Some (TooLong place)) (cond cut (Some (TornRecord place)) None)))) ≡ Some fault
    → (fault ≡ TornRecord place) ⊎ (fault ≡ BadFraction place) ⊎ (fault ≡ TooLong place)
which_fault true torn bad long cut place fault e = absurd cc
which_fault false true bad long cut place fault e = inl cc
which_fault false false true long cut place fault e = inr (inl cc)
which_fault false false false true cut place fault e = inr (inr cc)
which_fault false false false false true place fault e = inl cc
which_fault false false false false false place fault e = absurd cc

-- a fault that a record meets is neither `Failed` nor `CountFull`
pub met_neither : {R : Type 0} (left : R → Option (List ℕ)) (header : Header) (place : ℕ) (old new : Ahead R) (fault : Fault) → MeetsFault left header place old new fault
    → (fault ≡ Failed → ⊥) × (fault ≡ CountFull → ⊥)
met_neither left header place old new fault (grows, inl broke) =
    (λ e. let clash : Device ≡ Failed = sym broke.0 ∙ e in absurd cc, λ e. let clash : Device ≡ CountFull = sym broke.0 ∙ e in absurd cc)
met_neither left header place old new fault (grows, inr stands) =
    let rest = waiting_in new ++ stands.0 in
    let which = which_fault (length rest == 0) (nat_lt (length rest) 16) (nat_le (per_second header.unit) (fraction header.order rest)) (nat_lt 262144 (captured header.order rest))
    (nat_lt (length rest) (16 + captured header.order rest)) place fault stands.2 in
    elim which [
      | inl torn ↦ (λ e. let clash : TornRecord place ≡ Failed = sym torn ∙ e in absurd cc, λ e. let clash : TornRecord place ≡ CountFull = sym torn ∙ e in absurd cc)
      | inr (inl bad) ↦ (λ e. let clash : BadFraction place ≡ Failed = sym bad ∙ e in absurd cc, λ e. let clash : BadFraction place ≡ CountFull = sym bad ∙ e in absurd cc)
      | inr (inr long) ↦ (λ e. let clash : TooLong place ≡ Failed = sym long ∙ e in absurd cc, λ e. let clash : TooLong place ≡ CountFull = sym long ∙ e in absurd cc)
    ]

-- how such a fault leaves a reader
pub leaves_failed : {R : Type 0} (old new : Reading R) (fault : Fault) → (fault ≡ Failed → ⊥) × (fault ≡ CountFull → ⊥) → new.failed ≡ true → Leaves old new (Err fault)
leaves_failed old new ShortHeader neither failed = failed
leaves_failed old new NotSavefile neither failed = failed
leaves_failed old new Version neither failed = failed
leaves_failed old new LinkType neither failed = failed
leaves_failed old new (TornRecord place) neither failed = failed
leaves_failed old new (BadFraction place) neither failed = failed
leaves_failed old new (TooLong place) neither failed = failed
leaves_failed old new NoMemory neither failed = failed
leaves_failed old new Device neither failed = failed
leaves_failed old new Failed neither failed = absurd (neither.0 refl)
leaves_failed old new CountFull neither failed = absurd (neither.1 refl)

-- an answer that is no fault of a device, where none failed
pub no_device_failed : {T : Type 0} (result : Result T Fault) (fault : Fault) (old new : ℕ) → result ≡ Err fault → (fault ≡ Device → ⊥) → new ≡ old → (result ≡ Err Device) ↔ (new ≢ old)
no_device_failed result fault old new is other same = (λ e. let device : fault ≡ Device = cc in absurd (other device), λ differs. absurd (differs same))

-- an answer that is a fault of the device, where it failed
pub device_failed : {T : Type 0} (result : Result T Fault) (fault : Fault) (old new : ℕ) → result ≡ Err fault → fault ≡ Device → new ≡ (old + 1) % 2 ^ 64 → (result ≡ Err Device) ↔ (new ≢ old)
device_failed result fault old new is device counted = (λ _ same. omega (arith, counted, same), λ _. is ∙ ap Err device)

-- ---- The header of a record

-- it stands in a text whatever follows it
pub IsRecordHeader-front : (order : Order) → (unit : TimeUnit) (text more : List ℕ) (h : RecordHeader) → IsRecordHeader order unit text h → IsRecordHeader order unit (text ++ more) h
IsRecordHeader-front order unit text more h r =
    let size : 16 ≤ length text = r.size in
    let same : (offset : ℕ) → offset + 4 ≤ 16 → field order (text ++ more) offset 4 ≡ field order text offset 4 = λ offset k. field-front order text more offset 4 (omega (arith, size, k)) in
    record {
      size = omega (arith, length-append text more);
      seconds = same 0 (omega arith) ∙ r.seconds;
      below_a_second = subst (λ (n : ℕ). n < per_second unit) (sym (same 4 (omega arith))) r.below_a_second;
      nanos = ap (λ (n : ℕ). n * nanos_in unit) (same 4 (omega arith)) ∙ r.nanos;
      captured_is = same 8 (omega arith) ∙ r.captured_is;
      short = r.short;
      on_the_wire = same 12 (omega arith) ∙ r.on_the_wire;
      seconds_fit = r.seconds_fit;
      nanos_fit = r.nanos_fit;
      length_fits = r.length_fits;
    }

-- it stands in what waits after more was read
pub IsRecordHeader-grown : {R : Type 0} (left : R → Option (List ℕ)) (order : Order) → (unit : TimeUnit) (text : List ℕ) (h : RecordHeader) (old new : Ahead R)
    → IsRecordHeader order unit text h → text ≡ waiting_in old → Grows left old new → IsRecordHeader order unit (waiting_in new) h
IsRecordHeader-grown left order unit text h old new r is grows =
    subst (λ (t : List ℕ). IsRecordHeader order unit t h) (ap (λ (t : List ℕ). t ++ grows.0) is ∙ sym grows.1) (IsRecordHeader-front order unit text grows.0 h r)

-- where its bytes do not follow there is no record
pub NoRecord-short : (order : Order) (unit : TimeUnit) (text : List ℕ) (h : RecordHeader) → IsRecordHeader order unit text h → length text < 16 + h.captured → NoRecord order unit text
NoRecord-short order unit text h r short = λ p after s. let whole : 16 + captured order text ≤ length text = s.whole in let is : captured order text ≡ h.captured = r.captured_is in omega arith

-- and no record stands where there is no whole header
pub NoRecord-no_header : (order : Order) (unit : TimeUnit) (text : List ℕ) → length text < 16 → NoRecord order unit text
NoRecord-no_header order unit text short = λ p after s. let size : 16 ≤ length text = s.size in omega arith

-- what it says may be written again
pub header_writable : (order : Order) (unit : TimeUnit) (text lent : List ℕ) (h : RecordHeader) → IsRecordHeader order unit text h → lent ≡ take h.captured (drop 16 text)
    → IsWritable (packet h.sec h.nanos h.len lent)
header_writable order unit text lent h r is = record {
  seconds = r.seconds_fit;
  nanos = r.nanos_fit;
  on_the_wire = r.length_fits;
  bytes = let short : h.captured ≤ 262144 = r.short in omega (arith, short, ap length is, length-take h.captured (drop 16 text));
}

-- where a record waits whole the source is not asked for more
pub not_asked : {R : Type 0} (order : Order) (unit : TimeUnit) (text : List ℕ) (h : RecordHeader) (old mid new : Ahead R) (p : Packet) (after : List ℕ)
    → IsRecordHeader order unit text h → text ≡ waiting_in mid → (16 ≤ length (waiting_in old) → mid ≡ old) → (16 + h.captured ≤ length (waiting_in mid) → new ≡ mid)
    → IsRecord order unit (waiting_in old) p after → new.source ≡ old.source
not_asked {R = R} order unit text h old mid new p after r is first second s =
    let same : mid ≡ old = first s.size in
    let text_is : text ≡ waiting_in old = is ∙ ap waiting_in same in
    let captured_is : captured order (waiting_in old) ≡ h.captured = subst (λ (t : List ℕ). captured order t ≡ h.captured) text_is r.captured_is in
    let size : length (waiting_in mid) ≡ length (waiting_in old) = ap (λ (a : Ahead R). length (waiting_in a)) same in
    let whole : 16 + captured order (waiting_in old) ≤ length (waiting_in old) = s.whole in
    ap (λ (a : Ahead R). a.source) (second (omega (arith, captured_is, size, whole)) ∙ same)

-- the record is torn
pub torn_stands : (order : Order) (unit : TimeUnit) (place : ℕ) (text : List ℕ) (h : RecordHeader) → IsRecordHeader order unit text h → length text < 16 + h.captured
    → first_fault order unit place text ≡ Some (TornRecord place)
torn_stands order unit place text h r short =
    let many : captured order text ≡ h.captured = r.captured_is in
    let some : (length text == 0) ≡ false = let size : 16 ≤ length text = r.size in ne_eqb (length text) 0 (λ z. omega arith) in
    let header : nat_lt (length text) 16 ≡ false = le-ltb (length text) 16 r.size in
    let below : nat_le (per_second unit) (fraction order text) ≡ false = lt-leb (per_second unit) (fraction order text) r.below_a_second in
    let fits : nat_lt 262144 (captured order text) ≡ false = le-ltb 262144 (captured order text) (subst (λ (n : ℕ). n ≤ 262144) (sym many) r.short) in
    let torn : nat_lt (length text) (16 + captured order text) ≡ true = lt-ltb (length text) (16 + captured order text) (subst (λ (n : ℕ). length text < 16 + n) (sym many) short) in
    rw (some, header, below, fits, torn) refl

-- and nothing is left after it
pub torn_rest : (order : Order) (unit : TimeUnit) (place : ℕ) (text : List ℕ) (left : Option (List ℕ)) (want : ℕ) → (want ≤ length text) ⊎ IsAtEnd left → length text < want
    → first_fault order unit place text ≡ Some (TornRecord place) → (rest : List ℕ) × IfSome left (λ bytes. bytes ≡ rest) × (first_fault order unit place (text ++ rest) ≡ Some (TornRecord place))
torn_rest order unit place text left want enough short torn =
    let known = known_rest left (want ≤ length text) enough in
    let nothing : known.0 ≡ [] = elim known.2 [ inl h ↦ absurd (omega (arith, h, short)) | inr e ↦ e ] in
    (known.0, known.1, rw (nothing, append-nil) torn)

-- where its bytes follow the record stands
pub record_stands : (order : Order) (unit : TimeUnit) (text lent after : List ℕ) (h : RecordHeader) → IsRecordHeader order unit text h → 16 + h.captured ≤ length text
    → lent ≡ take h.captured (drop 16 text) → after ≡ drop (16 + h.captured) text → IsRecord order unit text (packet h.sec h.nanos h.len lent) after
record_stands order unit text lent after h r whole is follows =
    let many : captured order text ≡ h.captured = r.captured_is in
    record {
      size = r.size;
      seconds = r.seconds;
      below_a_second = r.below_a_second;
      nanos = r.nanos;
      short = subst (λ (n : ℕ). n ≤ 262144) (sym many) r.short;
      on_the_wire = r.on_the_wire;
      whole = subst (λ (n : ℕ). 16 + n ≤ length text) (sym many) whole;
      bytes = ap (λ (n : ℕ). take n (drop 16 text)) many ∙ sym is;
      follows = ap (λ (n : ℕ). drop (16 + n) text) many ∙ sym follows;
    }

-- as many items as were taken are those
take_taken : (n : ℕ) (xs : List ℕ) → take (length (take n xs)) xs ≡ take n xs
take_taken zero xs = refl
take_taken (suc n) [] = refl
take_taken (suc n) (x ∷ xs) = ap (λ (t : List ℕ). x ∷ t) (take_taken n xs)

-- a record that was found in what waits is passed, and its bytes are lent
pub record_found : (order : Order) (unit : TimeUnit) (seen text lent after : List ℕ) (p : Packet) → IsRecord order unit seen p (drop (16 + length p.bytes) seen)
    → seen ≡ text → lent ≡ take (length p.bytes) (drop 16 text) → after ≡ drop (16 + length p.bytes) text
    → IsRecord order unit (text ++ []) (packet p.sec p.nanos p.len lent) after
record_found order unit seen text lent after p found is lends follows =
    let r : IsRecord order unit text p (drop (16 + length p.bytes) text) = subst (λ (t : List ℕ). IsRecord order unit t p (drop (16 + length p.bytes) t)) is found in
    let same : lent ≡ p.bytes = lends ∙ ap (λ (b : List ℕ). take (length b) (drop 16 text)) (sym r.bytes) ∙ take_taken (captured order text) (drop 16 text) ∙ r.bytes in
    subst (λ (t : List ℕ). IsRecord order unit t (packet p.sec p.nanos p.len lent) after) (sym (append-nil text)) (record {
      size = r.size;
      seconds = r.seconds;
      below_a_second = r.below_a_second;
      nanos = r.nanos;
      short = r.short;
      on_the_wire = r.on_the_wire;
      whole = r.whole;
      bytes = r.bytes ∙ sym same;
      follows = r.follows ∙ sym follows;
    })
