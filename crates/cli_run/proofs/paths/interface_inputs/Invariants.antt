use Rattle.std.proofs.Common.{◌≡◌, vec_len}
use Rattle.cli_run.proofs.paths.interface_inputs.Given as goal

abbrev pub invariant-loop-paths : goal.invariant-loop-paths
invariant-loop-paths l = vec_len l.all ≡ l.paths-index
