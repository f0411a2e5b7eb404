use Rattle.std.proofs.Common.{take}
use Rattle.tap_steps.specs.OwnSteps.{AllName}
use Rattle.tap_steps.proofs.playing.first_without_listener.Given as goal

abbrev pub invariant-loop-place : goal.invariant-loop-place
invariant-loop-place l = AllName l.listeners (take l.place l.steps)
