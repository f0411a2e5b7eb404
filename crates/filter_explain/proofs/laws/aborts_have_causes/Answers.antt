use Rattle.filter_explain.proofs.Aborting.{primitives-have-causes, relations-have-causes}
use Rattle.filter_explain.proofs.laws.aborts_have_causes.Goals as goal

pub returns-clause-primitives : goal.returns-clause-primitives
returns-clause-primitives c = primitives-have-causes

pub returns-clause-relations : goal.returns-clause-relations
returns-clause-relations c = relations-have-causes
