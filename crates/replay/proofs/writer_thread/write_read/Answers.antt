use Rattle.std.proofs.Common.{◌≡◌, rules, ap, sym, ◌∙◌, subst, List, ◌++◌, append_assoc}
use Rattle.rtrb.specs.Ring.{received}
use Rattle.listener.specs.Laws.{joined}
use Rattle.listener.specs.declared.message.Message.{Message}
use Rattle.replay.specs.Reading.{messages_of}
use Rattle.replay.specs.Writing.{Writes}
use Rattle.replay.proofs.Batches.{joins_buffer}
use Rattle.replay.proofs.writer_thread.write_read.Goals.{in-None, in-Some+then-not-written, in-Some+else-not-written+in-Err+then-last}
use Rattle.replay.proofs.writer_thread.write_read.Goals as goal

pub loop-preserved-in-Ok : goal.loop-preserved-in-Ok
loop-preserved-in-Ok g c = (
  search rules,
  (λ output messages t.
      let so_far = joined (messages_of (received c.loop.full)) in
      subst (λ (ms : List Message). Writes g.W.Sink.taken g.W.Sink.failures output ms c.put_all.new.self)
      (append_assoc messages so_far c.in-Ok.buffer.messages
      ∙ ap (λ ms. messages ++ ms) (sym (ap (λ bs. joined (messages_of bs)) c.in-Ok.ensures.ok.0 ∙ joins_buffer (received c.loop.full) c.in-Ok.buffer)))
      (c.put_all.ensures output (messages ++ so_far) (c.loop.invariant.1 output messages t))),
)

pub loop-preserved-then-not-last : goal.loop-preserved-then-not-last
loop-preserved-then-not-last g c =
    let same : received c.loop.full ≡ received c.is_abandoned-last.new.self = search rules in (
      search rules,
      (λ output messages t.
          c.wait.ensures output _ (subst (λ bs. Writes g.W.Sink.taken g.W.Sink.failures output (messages ++ joined (messages_of bs)) c.loop.written) same (c.loop.invariant.1 output messages t))),
    )

pub loop-preserved : goal.loop-preserved
loop-preserved g c =
    let same : received c.loop.full ≡ received c.is_abandoned-last.new.self = search rules in (
      search rules,
      (λ output messages t. subst (λ bs. Writes g.W.Sink.taken g.W.Sink.failures output (messages ++ joined (messages_of bs)) c.loop.written) same (c.loop.invariant.1 output messages t)),
    )

pub returns-clause-ring : goal.returns-clause-ring
returns-clause-ring g c = elim c.match-next.branch [
  | in-None w ↦ rw w.full-is c.loop.invariant.0
  | in-Some+then-not-written w ↦ rw w.full-is c.loop.invariant.0
  | in-Some+else-not-written+in-Err+then-last w ↦ rw w.full-is (search rules)
]

pub returns-clause-writes : goal.returns-clause-writes
returns-clause-writes g c = elim c.match-next.branch [
  | in-None w ↦ rw w.full-is c.loop.invariant.1
  | in-Some+then-not-written w ↦ rw w.full-is c.loop.invariant.1
  | in-Some+else-not-written+in-Err+then-last w ↦ rw w.full-is (search rules)
]
