use Rattle.std.proofs.Common.{length}
use Rattle.cli_store.proofs.memory.+is_any_lost.Given as goal

abbrev pub decreases-is_any_lost : goal.decreases-is_any_lost
decreases-is_any_lost l = length l.read.now
