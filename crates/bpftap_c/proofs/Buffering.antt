-- Buffers of records in memory of the caller.
use Rattle.std.proofs.Common.{◌≡◌, ◌+◌, ◌<◌, ℕ, List, [], ◌∷◌, ◌++◌, length, take, replicate, refl, ap, sym, ◌∙◌, arith, length-take}
use Rattle.listener.specs.declared.message.Message.{Message}
use Rattle.listener.specs.Decoded.{messages_in, AreRecords}
use Rattle.listener.specs.Messages.{size, room}
use Rattle.listener.specs.RecordBytes.{fields_text, padding, record_text}
use Rattle.listener.proofs.Decoding.{length_fields, no_messages, put_text, room_is, split_records}
use Rattle.listener.proofs.Rooms.{room_nonempty}
use Rattle.bpftap_c.specs.declared.buffers.BpftapBuffer.{BpftapBuffer}
use Rattle.bpftap_c.specs.Buffers.{messages, text_of, IsBuffer}

-- the room that the messages take
pub room_of : (b : BpftapBuffer) → IsBuffer b → room (messages b) ≡ b.size
room_of b is = omega (arith, room_is (text_of b) is.records, length-take b.size b.bytes.now, is.within)

pub none_in : (b : BpftapBuffer) → b.size ≡ 0 → messages b ≡ []
none_in b none = ap (λ (n : ℕ). messages_in (take n b.bytes.now)) none ∙ no_messages

pub some_in : (b : BpftapBuffer) → IsBuffer b → 0 < b.size → 0 < length (messages b)
some_in b is some = room_nonempty (messages b) (omega (arith, room_of b is))

-- fewer bytes than a record's fields are no record
pub short_none : (text : List ℕ) → AreRecords text → length text < 32 → messages_in text ≡ []
short_none [] are short = no_messages
short_none (x ∷ text) are short =
    let first = split_records (x ∷ text) are (omega arith) in absurd (omega (arith, first.fits))

-- A record is written in three pieces, each after the one before: its fields, its data and its padding.
pub put_record : (m : Message) (at n : ℕ) (w0 w1 w2 w3 header : List ℕ)
    → header ≡ fields_text m.sec m.nanos (length m.bytes) m.len m.place m.capture → n ≡ padding (length m.bytes)
    → take (at + length header) w1 ≡ take at w0 ++ header
    → take (at + 32 + length m.bytes) w2 ≡ take (at + 32) w1 ++ m.bytes
    → take (at + 32 + length m.bytes + length (take n (replicate {A = ℕ} 8 0))) w3 ≡ take (at + 32 + length m.bytes) w2 ++ take n (replicate 8 0)
    → take (at + size (length m.bytes)) w3 ≡ take at w0 ++ record_text m
put_record m at n w0 w1 w2 w3 header h p e1 e2 e3 =
    let kept = length m.bytes in
    let zeros = take n (replicate {A = ℕ} 8 0) in
    let long : length header ≡ 32 = ap length h ∙ length_fields m.sec m.nanos kept m.len m.place m.capture in
    let few : length zeros ≡ n = omega (arith, length-take n (replicate {A = ℕ} 8 0), p) in
    let end : at + size kept ≡ at + 32 + kept + length zeros = omega (arith, few, p) in
    let t1 : take (at + 32) w1 ≡ take at w0 ++ header = ap (λ (k : ℕ). take (at + k) w1) (sym long) ∙ e1 in
    ap (λ (k : ℕ). take k w3) end
    ∙ put_text m kept n (take at w0) header (take (at + 32) w1) (take (at + 32 + kept) w2) (take (at + 32 + kept + length zeros) w3) refl p h t1 e2 e3
