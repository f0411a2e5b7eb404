use Rattle.std.proofs.lemmas.Result.{err_from_is_err_and}
use Rattle.savefile.proofs.Sending.{on_err, SendsPart-first, SendsPart-second}
use Rattle.savefile.proofs.writing.Writer.send_both.Goals as goal

pub returns-in_err-send-clause-err : goal.returns-in_err-send-clause-err
returns-in_err-send-clause-err g c =
    let p = err_from_is_err_and c.from_residual.result c.from_residual.ensures.1 in
    rw p.1 (SendsPart-first g.W.Sink.taken c.args.self.now c.send.new.self c.args.header.now c.args.bytes.now c.in_err-send.ensures.err)

pub returns-clause-err : goal.returns-clause-err
returns-clause-err g c =
    on_err c.send-2.result _ _ (SendsPart-second g.W.Sink.taken c.args.self.now c.send.new.self c.send-2.new.self c.args.header.now c.args.bytes.now c.in_ok-send.ensures.ok.0) c.send-2.ensures.err
