use Rattle.cli_run.specs.Bare.{IsBare}
use Rattle.cli_run.proofs.Laid.{IsMade}
use Rattle.cli_run.proofs.layout.bare_interfaces.Given as goal

-- the interfaces so far, and the captures that are left
abbrev pub invariant-loop-captures : goal.invariant-loop-captures
invariant-loop-captures g l =
    (goal.iterator-loop-captures g).can_next l.captures-iterator × (goal.iterator-loop-captures g).is_finite l.captures-iterator
    × IsMade IsBare l.fn.captures.items l.interfaces.items l.captures-iterator.rest.items
