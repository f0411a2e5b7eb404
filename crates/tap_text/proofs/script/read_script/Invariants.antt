use Rattle.std.proofs.Common.{length}
use Rattle.bpfvm.specs.Listing.{further_lines}
use Rattle.tap_text.specs.Script.{IsStepLine}
use Rattle.line_text.proofs.Reading.{IsRead}
use Rattle.tap_text.proofs.script.read_script.Given as goal

abbrev pub invariant-loop-rest : goal.invariant-loop-rest
invariant-loop-rest l = IsRead IsStepLine (further_lines l.text) (further_lines l.rest) l.steps.items

abbrev pub decreases-loop-rest : goal.decreases-loop-rest
decreases-loop-rest l = length l.rest
