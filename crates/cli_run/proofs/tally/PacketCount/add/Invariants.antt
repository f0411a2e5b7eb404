use Rattle.std.proofs.Common.{length}
use Rattle.cli_run.proofs.tally.PacketCount.add.Given as goal

abbrev pub decreases-loop-byte : goal.decreases-loop-byte
decreases-loop-byte l = length l.rest
