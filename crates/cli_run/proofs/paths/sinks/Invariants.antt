use Rattle.std.proofs.Common.{◌≡◌, vec_len}
use Rattle.cli_run.proofs.paths.sinks.Given as goal

abbrev pub invariant-loop-path : goal.invariant-loop-path
invariant-loop-path l = vec_len l.sinks ≡ l.path-index
