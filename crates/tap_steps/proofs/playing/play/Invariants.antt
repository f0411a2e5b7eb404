use Rattle.std.proofs.Common.{◌≡◌, drop, length}
use Rattle.tap_steps.specs.Watching.{played, CountsFit}
use Rattle.tap_steps.proofs.playing.play.Given as goal

-- what is left leads from here to where all leads
abbrev pub invariant-loop-step : goal.invariant-loop-step
invariant-loop-step l = record {
  rest : played (drop l.step-index l.steps) l.rest l.watched.items ≡ played l.steps l.playlist l.fn.watched.items;
  fit : CountsFit (length l.rest) l.watched.items;
  number : length l.watched.items ≡ length l.fn.watched.items;
}
