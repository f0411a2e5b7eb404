use Rattle.std.proofs.Common.{◌∙◌, suc, length, ap, arith, refl, Some}
use Rattle.cli_files.specs.declared.reading.TheConstants.{MAX_TEXT}
use Rattle.cli_steps.proofs.Reasons.{long_front, short_front}
use Rattle.cli_steps.proofs.reading.read_text.Goals as goal

pub returns-in-Ok-clause-refused : goal.returns-in-Ok-clause-refused
returns-in-Ok-clause-refused g c tells =
    let (whole, is, front) = c.in-Ok.ensures.bytes tells in
    (refl, (whole, is, long_front MAX_TEXT (suc MAX_TEXT) c.as_slice.result.now whole (c.as_slice.ensures.value ∙ front) c.if-as_slice-gt-MAX_TEXT.true))

pub returns-in-Ok-2-clause-text : goal.returns-in-Ok-2-clause-text
returns-in-Ok-2-clause-text g c tells =
    let (whole, is, front) = c.in-Ok.ensures.bytes tells in
    is ∙ ap Some (short_front MAX_TEXT c.in-Ok.text.items whole front (omega (arith, ap length c.as_slice.ensures.value, c.if-as_slice-gt-MAX_TEXT.false)))
