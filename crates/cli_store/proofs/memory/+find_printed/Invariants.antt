use Rattle.std.proofs.Common.{length}
use Rattle.cli_store.proofs.memory.+find_printed.Given as goal

abbrev pub decreases-find_printed : goal.decreases-find_printed
decreases-find_printed l = length l.read.now
