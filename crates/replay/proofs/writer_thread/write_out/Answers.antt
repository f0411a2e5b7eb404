use Rattle.std.proofs.Common.{sym, ap, ◌∙◌, subst, List, [], ◌++◌}
use Rattle.std.proofs.lemmas.List.{append-nil}
use Rattle.rtrb.specs.Ring.{received}
use Rattle.listener.specs.Buffers.{Filled}
use Rattle.listener.specs.Laws.{joined}
use Rattle.listener.specs.declared.message.Message.{Message}
use Rattle.replay.specs.Reading.{messages_of}
use Rattle.replay.specs.Writing.{Writes}
use Rattle.replay.proofs.writer_thread.write_out.Goals as goal

pub returns : goal.returns
returns g c =
    let T = g.W.Sink.taken in
    let F = g.W.Sink.failures in
    let o = c.args.writing.output in
    let read = joined (messages_of (received c.write_read.new.full)) in
    let opened = subst (λ (bs : List Filled). Writes T F o (joined (messages_of bs)) c.open-written.result) (sym c.args.writing.new.0) c.open-written.ensures in
    let one = c.write_read.ensures.writes o [] opened in
    let two = c.write_rest.ensures.writes o read
    (subst (λ (ms : List Message). Writes T F o ms c.write_read.new.written)
    (sym (append-nil read) ∙ ap (λ (bs : List Filled). read ++ joined (messages_of bs)) (sym c.args.writing.new.1)) one) in
    record { ring = c.write_read.ensures.ring; rest_ring = c.write_rest.ensures.ring; writes = c.flush.ensures o _ two }
