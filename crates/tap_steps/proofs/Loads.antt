-- The bytes of a buffer are as many as its messages have room for.
use Rattle.std.proofs.Common.{◌≡◌, ℕ, ◌+◌, List, [], ◌∷◌, ◌++◌, length, drop, replicate, refl, ap, sym, ◌∙◌, arith, length-append}
use Rattle.std.proofs.lemmas.List.{drop_at, length-replicate}
use Rattle.std.proofs.lemmas.List.Concat.{flat_map-cons}
use Rattle.std.proofs.lemmas.List.Sums.{sum_by-cons}
use Rattle.listener.specs.declared.message.Message.{Message}
use Rattle.listener.specs.Messages.{size, size_of, room}
use Rattle.listener.specs.PlainList.{PlainList, load}
use Rattle.listener.specs.RecordBytes.{fields_text, padding, record_text, records_text}

-- the fields of a record have 32 bytes
length_fields : (sec nanos kept len place capture : ℕ) → length (fields_text sec nanos kept len place capture) ≡ 32
unfolding fields_text
length_fields sec nanos kept len place capture = refl

length_record : (m : Message) → length (record_text m) ≡ size_of m
unfolding record_text size_of
length_record m =
    let fields : List ℕ = fields_text m.sec m.nanos (length m.bytes) m.len m.place m.capture in
    let pads : List ℕ = replicate (padding (length m.bytes)) 0 in
    let e : length (fields ++ (m.bytes ++ pads)) ≡ size (length m.bytes) =
    omega (
      arith,
      length-append fields (m.bytes ++ pads),
      length_fields m.sec m.nanos (length m.bytes) m.len m.place m.capture,
      length-append m.bytes pads,
      length-replicate {A = ℕ} (padding (length m.bytes)) 0,
    ) in
    e

length_records : (ms : List Message) → length (records_text ms) ≡ room ms
unfolding records_text room
length_records [] = refl
length_records (m ∷ ms) =
    ap length (flat_map-cons record_text m ms) ∙ length-append (record_text m) (records_text ms)
    ∙ (λ i. length_record m i + length_records ms i) ∙ sym (sum_by-cons size_of m ms)

-- the load of a store is its bytes
pub load_is : (hold store : List Message) (s : PlainList) → hold ++ store ≡ s.pending → length hold ≡ s.in_hold → length (records_text store) ≡ load s
load_is hold store s pending in_hold =
    length_records store ∙ ap room (sym (drop_at hold store s.in_hold in_hold) ∙ ap (drop s.in_hold) pending)
