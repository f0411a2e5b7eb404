use Rattle.line_text.specs.declared.form.LineForm.TheVariants.{Text}
use Rattle.cli_parts.proofs.Printed.{next_stretch}
use Rattle.cli_parts.proofs.line.print_stretches.Goals as goal

pub loop-stretch-preserved : goal.loop-stretch-preserved
loop-stretch-preserved g c =
    next_stretch _ _ _ Text c.args.again.now c.loop-stretch.stretch-index _ c.loop-stretch-test.true c.loop-stretch.invariant c.in_default.ensures
