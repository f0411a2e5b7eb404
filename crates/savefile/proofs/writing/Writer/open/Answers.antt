use Rattle.std.proofs.Common.{refl}
use Rattle.savefile.proofs.Sending.{on_err, on_ok, opened, opens_in_part}
use Rattle.savefile.proofs.writing.Writer.open.Goals as goal

pub returns-clause-ok : goal.returns-clause-ok
returns-clause-ok g c =
    on_ok c.send-answer.result _ _ (λ s. opened g.W.Sink.taken c.args.order c.args.unit c.args.snap _ c.send-answer.new.self refl refl refl refl s.0 s.1) (rw c.file_header.ensures at c.send-answer.ensures.ok)

pub returns-clause-err : goal.returns-clause-err
returns-clause-err g c =
    on_err c.send-answer.result _ _ (λ s. opens_in_part g.W.Sink.taken c.args.order c.args.unit c.args.snap _ c.send-answer.new.self refl s) (rw c.file_header.ensures at c.send-answer.ensures.err)
