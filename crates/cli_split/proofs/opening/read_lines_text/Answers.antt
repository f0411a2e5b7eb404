use Rattle.std.proofs.Common.{◌≤◌, ◌∙◌, length, suc, ap, arith, refl, sym, Some}
use Rattle.cli_files.specs.declared.reading.TheConstants.{MAX_TEXT}
use Rattle.cli_split.proofs.Openings.{long_front, short_front}
use Rattle.cli_split.proofs.opening.read_lines_text.Goals as goal

pub returns-then-as_slice-gt-MAX_TEXT-clause-refused : goal.returns-then-as_slice-gt-MAX_TEXT-clause-refused
returns-then-as_slice-gt-MAX_TEXT-clause-refused g c = λ tells.
    let (whole, is, front) = c.in-Ok.ensures.bytes tells in
    (refl, (whole, is, long_front MAX_TEXT (suc MAX_TEXT) c.as_slice.result.now whole (c.as_slice.ensures.value ∙ front) c.if-as_slice-gt-MAX_TEXT.true))

pub returns-clause-text : goal.returns-clause-text
returns-clause-text g c = λ tells.
    let (whole, is, front) = c.in-Ok.ensures.bytes tells in
    let short : length c.as_slice-2.result.now ≤ MAX_TEXT = omega (arith, c.as_slice.ensures.len, c.as_slice-2.ensures.len, c.if-as_slice-gt-MAX_TEXT.false) in
    (is ∙ ap Some (short_front MAX_TEXT c.as_slice-2.result.now whole (c.as_slice-2.ensures.value ∙ front) short), short)
