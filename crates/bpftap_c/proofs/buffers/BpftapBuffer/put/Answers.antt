use Rattle.std.proofs.Common.{◌+◌, ◌-◌, length, take, refl, ap, sym, ◌∙◌, subst, arith}
use Rattle.std.proofs.lemmas.Bool.{false≢true}
use Rattle.listener.specs.Decoded.{IsStored, AreRecords, messages_in}
use Rattle.listener.proofs.Decoding.{put_message, put_records}
use Rattle.bpftap_c.specs.Buffers.{message_of, text_of}
use Rattle.bpftap_c.proofs.Buffering.{put_record, room_of}
use Rattle.bpftap_c.proofs.buffers.BpftapBuffer.put.Goals as goal

pub returns-then-size-self-clause-fits : goal.returns-then-size-self-clause-fits
returns-then-size-self-clause-fits c = (
  (λ t. absurd (false≢true t)),
  (λ h. absurd (omega (arith, room_of c.args.self.now c.requires.buffer, c.if-size-self.true, c.size-size.ensures, h))),
)

pub returns-clause-fits : goal.returns-clause-fits
returns-clause-fits c = (
  (λ t. omega (arith, room_of c.args.self.now c.requires.buffer, c.if-size-self.false, c.size-size.ensures, c.requires.buffer.within)),
  (λ h. refl),
)

pub returns-clause-stored : goal.returns-clause-stored
returns-clause-stored c =
    let b = c.args.self.now in
    let m = message_of c.args.capture c.args.packet.now c.args.data.now in
    let n = c.size-size.result - 32 - length m.bytes in
    let put = put_record m b.size n b.bytes.now c.write_at.new.to c.write_at-2.new.to c.write_at-3.new.to c.fields-header.result
    c.fields-header.ensures.text (omega (arith, c.size-size.ensures)) c.write_at.ensures.front c.write_at-2.ensures.front c.write_at-3.ensures.front in
    let s = c.fields-header.ensures.small in
    let stored : IsStored m = record { sec = s.0; nanos = s.1; kept = c.requires.writable; len = s.2; place = s.3; capture = s.4 } in
    ap (λ (k : _). messages_in (take (b.size + k) c.write_at-3.new.to)) c.size-size.ensures ∙ ap messages_in put
    ∙ put_message (text_of b) m c.requires.buffer.records stored

pub returns-clause-buffer : goal.returns-clause-buffer
returns-clause-buffer c =
    let b = c.args.self.now in
    let m = message_of c.args.capture c.args.packet.now c.args.data.now in
    let n = c.size-size.result - 32 - length m.bytes in
    let put = put_record m b.size n b.bytes.now c.write_at.new.to c.write_at-2.new.to c.write_at-3.new.to c.fields-header.result
    c.fields-header.ensures.text (omega (arith, c.size-size.ensures)) c.write_at.ensures.front c.write_at-2.ensures.front c.write_at-3.ensures.front in
    let s = c.fields-header.ensures.small in
    let stored : IsStored m = record { sec = s.0; nanos = s.1; kept = c.requires.writable; len = s.2; place = s.3; capture = s.4 } in
    let all = ap (λ (k : _). take (b.size + k) c.write_at-3.new.to) c.size-size.ensures ∙ put in
    record {
      within = omega (arith, c.if-size-self.false, c.requires.buffer.within, c.write_at.ensures.room, c.write_at-2.ensures.room, c.write_at-3.ensures.room);
      records = subst AreRecords (sym all) (put_records (text_of b) m c.requires.buffer.records stored);
    }
