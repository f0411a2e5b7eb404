use Rattle.std.proofs.Common.{rules, ap, sym, ◌∙◌, subst, List, [], ◌∷◌, ◌++◌, append_assoc}
use Rattle.rtrb.specs.Ring.{received}
use Rattle.listener.specs.Laws.{joined}
use Rattle.listener.specs.declared.message.Message.{Message}
use Rattle.replay.specs.Reading.{messages_of}
use Rattle.replay.specs.Writing.{Writes}
use Rattle.replay.proofs.Batches.{joins_buffer}
use Rattle.replay.proofs.writer_thread.write_rest.Goals as goal

pub loop-preserved : goal.loop-preserved
loop-preserved g c = (search rules, search rules, (λ output messages t. c.wait.ensures output messages (c.loop.invariant.2 output messages t)))

pub returns-then-not-written-clause-writes : goal.returns-then-not-written-clause-writes
returns-then-not-written-clause-writes g c = λ output messages t.
    subst (λ bs. Writes g.W.Sink.taken g.W.Sink.failures output (messages ++ joined (messages_of bs)) c.loop.written) (sym c.loop.invariant.1) (c.loop.invariant.2 output _ t)

pub returns-in-Ok-clause-writes : goal.returns-in-Ok-clause-writes
returns-in-Ok-clause-writes g c = λ output messages t.
    let before = received c.args.rest.now in
    let b = c.in-Ok.buffer in
    let so_far = messages ++ joined (messages_of before) in
    subst (λ (ms : List Message). Writes g.W.Sink.taken g.W.Sink.failures output ms c.put_all.new.self)
    (append_assoc messages (joined (messages_of before)) b.messages
    ∙ ap (λ ms. messages ++ ms) (sym (ap (λ bs. joined (messages_of bs)) (c.in-Ok.ensures.ok.0 ∙ ap (λ bs. bs ++ b ∷ []) c.loop.invariant.1) ∙ joins_buffer before b)))
    (c.put_all.ensures output so_far (c.loop.invariant.2 output so_far t))
