use Rattle.filter_bdd.specs.Diagrams.{Grew}
use Rattle.filter_bdd.proofs.diagrams.Diagrams.+apply_call.Given as goal

abbrev pub decreases-apply_call : goal.decreases-apply_call
decreases-apply_call l = l.levels

abbrev pub invariant-loop-attempt : goal.invariant-loop-attempt
invariant-loop-attempt l = Grew l.fn.self l.self
