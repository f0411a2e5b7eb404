use Rattle.std.proofs.Common.{◌≡◌, ◌-◌}
use Rattle.savefile.specs.Ahead.{Grows}
use Rattle.savefile.proofs.ahead.Ahead.fill_slowly.Given as goal

-- what was read so far comes after what waited, and the source did not fail
abbrev pub invariant-loop-self : goal.invariant-loop-self
invariant-loop-self g l = record {
  grows : Grows g.R.Source.left l.fn.self l.self;
  failures : g.R.Source.failures l.self.source ≡ g.R.Source.failures l.fn.self.source;
}

abbrev pub decreases-loop-self : goal.decreases-loop-self
decreases-loop-self g l = l.want - (l.self.end - l.self.start)
