use Rattle.std.proofs.Common.{◌≤◌}
use Rattle.filter_tree.proofs.tree.Value.+drop.Given as goal
use Rattle.filter_tree.specs.declared.tree.Value.{size-Value}

abbrev pub invariant-loop-self : goal.invariant-loop-self
invariant-loop-self l = size-Value l.self ≤ size-Value l.initial.self
