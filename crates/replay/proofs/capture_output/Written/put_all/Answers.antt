use Rattle.std.proofs.Common.{◌∷◌, ◌++◌, [], map, sym, ap, ◌∙◌, subst, append_assoc}
use Rattle.std.proofs.lemmas.List.{map-append}
use Rattle.listener.specs.Buffers.{message_in}
use Rattle.replay.specs.Writing.{Writes}
use Rattle.replay.proofs.capture_output.Written.put_all.Goals as goal

pub loop-record-preserved : goal.loop-record-preserved
loop-record-preserved g c = λ output messages t.
    let so_far = c.loop-record.yielded in
    let next = c.in-Some.record in
    subst (λ ms. Writes g.W.Sink.taken g.W.Sink.failures output ms c.put.new.self)
    (append_assoc messages (map message_in so_far) (message_in next ∷ []) ∙ ap (λ ms. messages ++ ms) (sym (map-append message_in so_far (next ∷ []))))
    (c.put.ensures output _ (c.loop-record.invariant output messages t))
