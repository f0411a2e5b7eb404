use Rattle.std.proofs.Common.{All, take}
use Rattle.replay_types.specs.Refusals.{AreFew, InterfaceIsRight}
use Rattle.replay_types.proofs.check.check_all.Given as goal

abbrev pub invariant-loop-i : goal.invariant-loop-i
invariant-loop-i g l = AreFew l.interfaces × All InterfaceIsRight (take l.i l.interfaces)
