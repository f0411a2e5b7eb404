use Rattle.std.proofs.Common.{◌≡◌, List, [], ◌∷◌, ◌++◌, length, refl, ap, sym, ◌∙◌, subst, arith}
use Rattle.std.proofs.lemmas.List.{append_assoc, append-nil}
use Rattle.rtrb.specs.Ring.{known_items}
use Rattle.listener.specs.Buffers.{Filled}
use Rattle.listener.specs.Laws.{joined}
use Rattle.listener.specs.declared.message.Message.{Message}
use Rattle.replay.specs.Reading.{messages_of}
use Rattle.replay.specs.Writing.{Writes}
use Rattle.replay.proofs.Batches.{joins_buffer}
use Rattle.replay.proofs.settling.write_left.Goals as goal

pub loop-preserved : goal.loop-preserved
loop-preserved g c =
    let (gone, was, count, writes) = c.loop.invariant in
    let b = c.pop_known.result in
    let rest = known_items c.pop_known.new.self in (
      gone ++ b ∷ [],
      was ∙ ap (λ bs. gone ++ bs) c.pop_known.ensures.received.1 ∙ sym (append_assoc gone (b ∷ []) rest),
      (let l = ap length c.pop_known.ensures.received.1 in omega (arith, count, l)),
      (λ output messages t.
          subst (λ (ms : List Message). Writes g.W.Sink.taken g.W.Sink.failures output ms c.put_all-in-loop.new.self)
          (append_assoc messages (joined (messages_of gone)) b.messages ∙ ap (λ ms. messages ++ ms) (sym (joins_buffer gone b)))
          (c.put_all-in-loop.ensures output (messages ++ joined (messages_of gone)) (writes output messages t))),
    )

empty : (bs : List Filled) → length bs ≡ 0 → bs ≡ []
empty [] e = refl
empty (b ∷ bs) e = absurd (omega (arith, e))

pub returns : goal.returns
returns g c = λ output messages t.
    let (gone, was, count, writes) = c.loop.invariant in
    let none = empty (known_items c.loop.ring) (omega (arith, count, c.loop-test.false)) in
    subst (λ (bs : List Filled). Writes g.W.Sink.taken g.W.Sink.failures output (messages ++ joined (messages_of bs)) c.loop.written)
    (sym (append-nil gone) ∙ ap (λ bs. gone ++ bs) (sym none) ∙ sym was)
    (writes output messages t)
