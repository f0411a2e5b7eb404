use Rattle.std.proofs.Common.{[], ◌∷◌, ◌++◌, append_assoc, map, ap, sym, ◌∙◌}
use Rattle.std.proofs.lemmas.List.{map-append}
use Rattle.listener.specs.Buffers.{message_in}
use Rattle.tap_steps.proofs.watched.copy.Goals as goal

pub loop-record-preserved : goal.loop-record-preserved
loop-record-preserved c =
    let before = c.args.to.now.items in
    c.in_ok-push.ensures.items
    ∙ ap (λ m. c.loop-record.to.items ++ m ∷ []) c.in_ok-to_message.ensures
    ∙ ap (λ ms. ms ++ message_in c.in-Some.record ∷ []) c.loop-record.invariant
    ∙ append_assoc before (map message_in c.loop-record.yielded) (message_in c.in-Some.record ∷ [])
    ∙ ap (λ ms. before ++ ms) (sym (map-append message_in c.loop-record.yielded (c.in-Some.record ∷ [])))
