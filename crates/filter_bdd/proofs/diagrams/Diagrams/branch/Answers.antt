use Rattle.filter_bdd.proofs.diagrams.Diagrams.branch.Goals as goal

pub returns-clause-gives : goal.returns-clause-gives
returns-clause-gives c = c.place.ensures.gives
