use Rattle.std.proofs.Common.{◌≡◌, false}
use Rattle.cli_split.proofs.hints.hint_parts.Given as goal

-- where no hints are wanted nothing was written
abbrev pub invariant-loop-line : goal.invariant-loop-line
invariant-loop-line g l = g.E.FaultSink.takes_hints l.fn.err ≡ false → l.err ≡ l.fn.err
