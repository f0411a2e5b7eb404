use Rattle.std.proofs.Common.{map}
use Rattle.std.specs.List.{AllZip}
use Rattle.tap_steps.specs.Watching.{Tells, IsFollowed}
use Rattle.tap_steps.proofs.reporting.trace_all.Given as goal

abbrev pub invariant-loop-one : goal.invariant-loop-one
invariant-loop-one l = record {
  reports : AllZip Tells l.yielded l.reports.items;
  answers : AllZip IsFollowed l.yielded (map (λ a. a.items) l.answers.items);
}
