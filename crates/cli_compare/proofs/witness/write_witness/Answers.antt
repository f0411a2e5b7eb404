use Rattle.std.proofs.Common.{Err, ap, arith, length}
use Rattle.cli_compare.proofs.Sent.{only_device}
use Rattle.cli_compare.proofs.witness.write_witness.Goals as goal

pub returns-in-Err-put-clause-only : goal.returns-in-Err-put-clause-only
returns-in-Err-put-clause-only g c =
    let written = rw c.in_default.is at c.open-writer.ensures.ok in
    only_device g.W.Sink.taken (g.W.Sink.taken c.args.sink) c.open-writer.result.0 c.in-Err-put.fault (length c.as_slice-bytes.result.now) written (omega (arith, c.if-bytes.false)) c.in-Err-put.ensures.only
    (λ is. c.in-Err-put.ensures.failed.0 (ap Err is)) (λ is. c.in-Err-put.ensures.count_full.0 (ap Err is))
