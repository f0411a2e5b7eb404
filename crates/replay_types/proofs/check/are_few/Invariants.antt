use Rattle.std.proofs.Common.{◌≤◌, All, length, take}
use Rattle.replay_types.specs.Refusals.{IsInBounds}
use Rattle.replay_types.proofs.check.are_few.Given as goal

abbrev pub invariant-loop-interface : goal.invariant-loop-interface
invariant-loop-interface g l = (length l.interfaces ≤ 16) × All IsInBounds (take l.interface-index l.interfaces)
