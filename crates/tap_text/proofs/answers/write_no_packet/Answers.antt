use Rattle.std.proofs.lemmas.Result.{err_from_is_err_and}
use Rattle.line_text.proofs.Taking.{TakesPart-none}
use Rattle.tap_text.proofs.answers.write_no_packet.Goals as goal

pub returns-in_err-put_no_packet : goal.returns-in_err-put_no_packet
returns-in_err-put_no_packet g c =
    let p = err_from_is_err_and c.from_residual.result c.from_residual.ensures.1 in
    rw p.1 (TakesPart-none _ _)
