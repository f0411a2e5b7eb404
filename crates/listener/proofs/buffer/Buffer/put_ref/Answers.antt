use Rattle.std.proofs.Common.{◌≡◌, ◌-◌, ◌∷◌, [], length, refl, ap, sym, ◌∙◌, subst, arith, length-take, length-append}
use Rattle.std.proofs.lemmas.Bool.{false≢true}
use Rattle.savefile.specs.declared.packet.Packet.{Packet}
use Rattle.listener.specs.declared.message.Message.{Message}
use Rattle.listener.specs.Messages.{cut_to, arrival}
use Rattle.listener.specs.Buffers.{filled}
use Rattle.listener.specs.RecordBytes.{record_text}
use Rattle.listener.specs.Decoded.{IsStored, AreRecords, messages_in}
use Rattle.listener.proofs.Rooms.{room_least}
use Rattle.listener.proofs.Decoding.{put_message, put_records, put_text, room_is, length_record}
use Rattle.listener.proofs.buffer.Buffer.put_ref.Goals as goal

pub returns-then-size-self-clause-fits : goal.returns-then-size-self-clause-fits
returns-then-size-self-clause-fits c =
    let r = room_is c.self.inside.bytes.items c.self.invariant.records in
    rw (← c.self.view_is) ((λ t. absurd (false≢true t)), (λ h. absurd (omega (arith, r, c.if-size-self.true, c.len.ensures, c.size-size.ensures, h))))

pub invariant_of-self : goal.invariant_of-self
invariant_of-self c =
    let old = c.self.inside.bytes.items in
    let p : Packet = record { sec = c.packet.inside.sec; nanos = c.packet.inside.nanos; len = c.packet.inside.len; bytes = c.packet.inside.bytes.now } in
    let kept = c.args.kept in
    let m : Message = cut_to kept (arrival c.args.capture c.args.place p) in
    let captured : length p.bytes ≡ length c.args.packet.now.bytes = ap (λ (q : Packet). length q.bytes) c.packet.view_is in
    let len : length m.bytes ≡ kept = omega (arith, length-take kept p.bytes, captured, c.requires.captured) in
    let items = put_text m kept (c.size-size.result - 32 - length m.bytes) old c.fields-header.result c.append.new.to.items c.append-2.new.to.items c.append-3.new.to.items
    len (omega (arith, c.size-size.ensures, len)) c.fields-header.ensures.text c.append.ensures.items c.append-2.ensures.items c.append-3.ensures.items in
    let s = c.fields-header.ensures.small in
    let stored : IsStored m = record { sec = s.0; nanos = s.1; kept = omega (arith, len, c.requires.writable); len = s.2; place = s.3; capture = s.4 } in
    let more = put_message old m c.self.invariant.records stored in
    record {
      reserved = omega arith;
      within = omega (arith, ap length items, length-append old (record_text m), length_record m stored [], len, c.self.invariant.within);
      most = c.self.invariant.most;
      records = subst AreRecords (sym items) (put_records old m c.self.invariant.records stored);
      counted = omega (arith, ap length (ap messages_in items ∙ more), length-append (messages_in old) (m ∷ []), c.self.invariant.counted);
    }

pub returns-clause-fits : goal.returns-clause-fits
returns-clause-fits c =
    let r = room_is c.self.inside.bytes.items c.self.invariant.records in
    rw (← c.self.view_is) ((λ t. omega (arith, r, c.if-size-self.false, c.len.ensures, c.size-size.ensures, c.self.invariant.within)), (λ h. refl))

pub returns-clause-stored : goal.returns-clause-stored
returns-clause-stored c =
    let old = c.self.inside.bytes.items in
    let p : Packet = record { sec = c.packet.inside.sec; nanos = c.packet.inside.nanos; len = c.packet.inside.len; bytes = c.packet.inside.bytes.now } in
    let kept = c.args.kept in
    let m : Message = cut_to kept (arrival c.args.capture c.args.place p) in
    let captured : length p.bytes ≡ length c.args.packet.now.bytes = ap (λ (q : Packet). length q.bytes) c.packet.view_is in
    let len : length m.bytes ≡ kept = omega (arith, length-take kept p.bytes, captured, c.requires.captured) in
    let items = put_text m kept (c.size-size.result - 32 - length m.bytes) old c.fields-header.result c.append.new.to.items c.append-2.new.to.items c.append-3.new.to.items
    len (omega (arith, c.size-size.ensures, len)) c.fields-header.ensures.text c.append.ensures.items c.append-2.ensures.items c.append-3.ensures.items in
    let s = c.fields-header.ensures.small in
    let stored : IsStored m = record { sec = s.0; nanos = s.1; kept = omega (arith, len, c.requires.writable); len = s.2; place = s.3; capture = s.4 } in
    rw (← c.self.view_is, ← c.packet.view_is) (ap (filled c.self.inside.capacity) (ap messages_in items ∙ put_message old m c.self.invariant.records stored))

pub overflow_add-self : goal.overflow_add-self
overflow_add-self c =
    let r = room_is c.self.inside.bytes.items c.self.invariant.records in
    omega (arith, r, room_least (messages_in c.self.inside.bytes.items), c.self.invariant.counted, c.self.invariant.within, c.self.invariant.most)
