use Rattle.std.proofs.Common.{◌≡◌, inl, inr, None, Some, Err, refl, ap, ◌∙◌, arith}
use Rattle.std.proofs.lemmas.List.Elements.{All-push}
use Rattle.savefile.specs.Savefile.{IsWritable}
use Rattle.savefile.proofs.Given.{holds_told}
use Rattle.savefile.proofs.reading.read_packets.Goals as goal

pub loop-packets-preserved : goal.loop-packets-preserved
loop-packets-preserved c =
    let told = c.in-Ok-true.ensures in
    let is : c.in_ok-to_packet-in-Ok-true.field-0 ≡ c.advance.new.self.lent = c.in_ok-to_packet-in-Ok-true.ensures ∙ c.packet.ensures in
    record {
      given = λ text header first. rw (c.in_ok-push-in-Ok-true.ensures.items, is) (told.packet (Some text) header c.loop-packets.packets.items (c.loop-packets.invariant.given text header first) (cc));
      writable = rw (c.in_ok-push-in-Ok-true.ensures.items, is) (All-push IsWritable c.loop-packets.packets.items c.advance.new.self.lent c.loop-packets.invariant.writable (told.writable (cc)));
    }

pub returns-in-Ok-false-clause-holds : goal.returns-in-Ok-false-clause-holds
returns-in-Ok-false-clause-holds c = λ text header first.
    let packets = c.loop-packets.packets.items in
    holds_told text header packets None (c.in-Ok-false.ensures.end (Some text) header packets (c.loop-packets.invariant.given text header first) (cc))

pub returns-in-Err-clause-holds : goal.returns-in-Err-clause-holds
returns-in-Err-clause-holds c = λ text header first.
    let ps = c.loop-packets.packets in
    elim (c.in-Err.ensures.cause (Some text) header ps.items (c.loop-packets.invariant.given text header first)) [
      | inl read ↦ holds_told text header ps.items (Some c.in-Err.fault) read
      | inr other ↦ elim other [
        | inl device ↦ absurd (c.in-Err.ensures.device.0 (ap Err device.0) refl)
        | inr full ↦ absurd (omega (arith, full.1, ps.ok, ps.small))
      ]
    ]
