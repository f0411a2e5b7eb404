use Rattle.std.proofs.Common.{◌≤◌, length, vec_capacity}
use Rattle.cli_run.proofs.Laid.{AreHandedBack}
use Rattle.cli_run.proofs.layout.sinks_of.Given as goal

abbrev pub invariant-loop-place : goal.invariant-loop-place
invariant-loop-place g l = record {
  handed : AreHandedBack l.places l.place-index l.fn.reports.items l.reports.items l.sinks.items;
  room : length l.places ≤ vec_capacity l.sinks;
}
