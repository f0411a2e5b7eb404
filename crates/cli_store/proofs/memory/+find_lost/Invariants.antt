use Rattle.std.proofs.Common.{length}
use Rattle.cli_store.proofs.memory.+find_lost.Given as goal

abbrev pub decreases-find_lost : goal.decreases-find_lost
decreases-find_lost l = length l.outputs.now
