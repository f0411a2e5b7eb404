use Rattle.std.proofs.Common.{◌++◌}
use Rattle.std.proofs.lemmas.Result.{err_from_is_err_and}
use Rattle.tap_steps.specs.Reports.{held_in}
use Rattle.tap_text.specs.declared.objects.ReportPart.TheVariants.{Held}
use Rattle.tap_text.specs.Printed.{listener_in, batches_in, part_lines}
use Rattle.line_text.proofs.Taking.{TakesPart-more, Takes-then}
use Rattle.tap_text.proofs.report.write_report.Goals as goal

pub returns-in_err-write_read : goal.returns-in_err-write_read
returns-in_err-write_read g c =
    let p = err_from_is_err_and c.from_residual.result c.from_residual.ensures.1 in
    let report = c.args.report.now in
    rw p.1 (TakesPart-more _ _ (listener_in c.args.head.form c.args.head.l report ++ batches_in c.args.head.form c.args.head.l report)
    (part_lines c.args.head.form c.args.head.l Held (held_in report)) c.in_err-write_read.ensures)

pub returns : goal.returns
returns g c =
    let report = c.args.report.now in
    Takes-then _ _ _ (listener_in c.args.head.form c.args.head.l report ++ batches_in c.args.head.form c.args.head.l report)
    (part_lines c.args.head.form c.args.head.l Held (held_in report)) _ c.in_ok-write_read.ensures (rw c.as_slice.ensures.value at c.write_part.ensures)
