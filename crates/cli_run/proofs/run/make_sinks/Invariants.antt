use Rattle.std.proofs.Common.{take}
use Rattle.cli_run.specs.Running.{Makes}
use Rattle.cli_run.proofs.run.make_sinks.Given as goal

-- the sinks of the lines before were made
abbrev pub invariant-loop-line : goal.invariant-loop-line
invariant-loop-line g l = record {
  callable : goal.M-IsAlwaysCallable g l.make;
  made : Makes (goal.M-step g) l.fn.make (take l.line-index l.lines) l.sinks.items l.make;
}
