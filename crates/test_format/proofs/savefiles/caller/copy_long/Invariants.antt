use Rattle.std.proofs.Common.{◌-◌, ◌^◌}
use Rattle.test_format.proofs.savefiles.caller.copy_long.Given as goal

abbrev pub decreases-loop-writer : goal.decreases-loop-writer
decreases-loop-writer g l = 2 ^ 64 - l.reader.given
