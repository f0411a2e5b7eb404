use Rattle.std.proofs.Common.{subst, sym}
use Rattle.cli_parts.specs.Selected.{SayParts}
use Rattle.cli_parts.proofs.Selections.{fault_of, line_fault, selection_of}
use Rattle.cli_parts.proofs.lines.select_lines.Goals as goal

pub returns-in-Ok-clause-selects : goal.returns-in-Ok-clause-selects
returns-in-Ok-clause-selects c =
    selection_of c.args.text.now c.as_slice.result.now c.select.result (subst (SayParts c.args.text.now) (sym c.as_slice.ensures.value) c.in-Ok.ensures.said) c.select.ensures.selects

pub returns-in-Ok-clause-fault : goal.returns-in-Ok-clause-fault
returns-in-Ok-clause-fault c =
    fault_of c.args.text.now c.as_slice.result.now c.select.result (subst (SayParts c.args.text.now) (sym c.as_slice.ensures.value) c.in-Ok.ensures.said) c.select.ensures.fault

pub returns-in-Err-clause-fault : goal.returns-in-Err-clause-fault
returns-in-Err-clause-fault c = line_fault c.args.text.now c.in-Err.fault c.in-Err.ensures.fault
