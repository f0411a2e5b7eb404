use Rattle.std.specs.List.{AllZip}
use Rattle.tap_steps.specs.Watching.{Tells}
use Rattle.tap_steps.proofs.reporting.report_all.Given as goal

abbrev pub invariant-loop-one : goal.invariant-loop-one
invariant-loop-one l = AllZip Tells l.yielded l.reports.items
