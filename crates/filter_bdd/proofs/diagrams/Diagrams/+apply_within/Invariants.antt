use Rattle.filter_bdd.proofs.diagrams.Diagrams.+apply_within.Given as goal

abbrev pub decreases-apply_within : goal.decreases-apply_within
decreases-apply_within l = l.depth
