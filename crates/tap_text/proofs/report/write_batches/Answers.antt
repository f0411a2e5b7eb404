use Rattle.std.proofs.lemmas.Result.{err_from_is_err_and}
use Rattle.tap_text.specs.Printed.{part_lines}
use Rattle.tap_text.specs.declared.objects.ReportPart.TheVariants.{Batch}
use Rattle.line_text.proofs.Taking.{TakesPart-numbered, Appends-numbered}
use Rattle.tap_text.proofs.report.write_batches.Goals as goal

pub returns-in_err-write_part : goal.returns-in_err-write_part
returns-in_err-write_part g c =
    let p = err_from_is_err_and c.from_residual.result c.from_residual.ensures.1 in
    rw p.1 (TakesPart-numbered (λ b batch. part_lines c.args.head.form c.args.head.l (Batch b) batch.items) c.args.batches.now c.loop-b.b c.index-batches-b.result _ _ _ c.loop-b-test.true c.index-batches-b.is c.loop-b.invariant (rw c.as_slice.ensures.value at c.in_err-write_part.ensures))

pub loop-b-preserved : goal.loop-b-preserved
loop-b-preserved g c =
    Appends-numbered (λ b batch. part_lines c.args.head.form c.args.head.l (Batch b) batch.items) c.args.batches.now c.loop-b.b c.index-batches-b.result _ _ _ c.loop-b-test.true c.index-batches-b.is c.loop-b.invariant (rw c.as_slice.ensures.value at c.in_ok-write_part.ensures)
