use Rattle.std.proofs.Common.{◌++◌, inl, inr, refl}
use Rattle.std.proofs.KnownBytes.{Consumes-trans, Keeps-refl}
use Rattle.cli_answers.proofs.Reading.{unopened}
use Rattle.cli_answers.proofs.lines.print_capture.Goals as goal

pub returns-in-Err-clause-prints : goal.returns-in-Err-clause-prints
returns-in-Err-clause-prints g c =
    inl (
      c.in-Err.fault,
      unopened g.R.Source.left c.args.from c.in-Err.source c.in-Err.fault c.in-Err.ensures.refused c.in-Err.ensures.unread c.in-Err.ensures.taken,
      refl,
      refl,
      Keeps-refl _,
      c.none.ensures.is,
      refl,
    )

pub returns-clause-prints : goal.returns-clause-prints
returns-clause-prints g c =
    let header = c.in-Ok.reader.header in
    rw c.close.ensures (inr (refl, header, c.print_packets-ended.ensures.prints (g.R.Source.left c.args.from) header c.in-Ok.ensures.ok))

pub returns-clause-gave : goal.returns-clause-gave
returns-clause-gave g c =
    let (first, opened) = c.in-Ok.ensures.taken in
    let (further, went) = c.print_packets-ended.ensures.taken in
    rw c.close.ensures (first ++ further, Consumes-trans _ _ _ first further opened went)
