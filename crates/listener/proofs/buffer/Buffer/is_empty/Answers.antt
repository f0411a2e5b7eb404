use Rattle.std.proofs.Common.{sym, ap, ◌∙◌, arith}
use Rattle.std.specs.Prelude.{vec_len}
use Rattle.std.proofs.lemmas.Bool.{eqb-true, eq-eqb}
use Rattle.std.proofs.lemmas.List.{nil_from_length}
use Rattle.listener.specs.Messages.{room}
use Rattle.listener.proofs.Rooms.{room_nil}
use Rattle.listener.specs.Decoded.{messages_in}
use Rattle.listener.proofs.Decoding.{no_messages, room_is}
use Rattle.listener.proofs.buffer.Buffer.is_empty.Goals as goal

pub returns : goal.returns
returns c =
    let items = c.self.inside.bytes.items in
    let r = room_is items c.self.invariant.records in
    rw (← c.self.view_is) (
      (λ t. ap messages_in (nil_from_length items (let z = eqb-true (vec_len c.self.inside.bytes) 0 (sym c.is_empty.ensures ∙ t) in omega arith)) ∙ no_messages),
      (λ n. c.is_empty.ensures ∙ eq-eqb (vec_len c.self.inside.bytes) 0 (omega (arith, r, ap room n, room_nil))),
    )
