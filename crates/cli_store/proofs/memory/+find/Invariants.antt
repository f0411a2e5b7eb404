use Rattle.std.proofs.Common.{length}
use Rattle.cli_store.proofs.memory.+find.Given as goal

abbrev pub decreases-find : goal.decreases-find
decreases-find l = length l.files.now
