use Rattle.std.proofs.Common.{length}
use Rattle.cli_watch.proofs.frames.FrameWalk.pass.Given as goal

abbrev pub decreases-loop-rest : goal.decreases-loop-rest
decreases-loop-rest l = length l.rest
