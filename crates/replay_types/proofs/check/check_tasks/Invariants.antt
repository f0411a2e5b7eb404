use Rattle.std.proofs.Common.{All, take}
use Rattle.replay_types.specs.Refusals.{TaskIsRight}
use Rattle.replay_types.proofs.check.check_tasks.Given as goal

abbrev pub invariant-loop-k : goal.invariant-loop-k
invariant-loop-k g l = All TaskIsRight (take l.k l.tasks)
