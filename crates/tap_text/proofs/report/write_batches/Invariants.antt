use Rattle.std.proofs.Common.{take}
use Rattle.std.specs.Io.KnownBytes.{Appends}
use Rattle.line_text.specs.Texts.{numbered}
use Rattle.tap_text.specs.declared.objects.ReportPart.TheVariants.{Batch}
use Rattle.tap_text.specs.Printed.{part_lines}
use Rattle.tap_text.proofs.report.write_batches.Given as goal

abbrev pub invariant-loop-b : goal.invariant-loop-b
invariant-loop-b g l = Appends (g.O.Write.contents l.fn.out) (g.O.Write.contents l.out) (numbered (λ b batch. part_lines l.head.form l.head.l (Batch b) batch.items) 0 (take l.b l.batches))
