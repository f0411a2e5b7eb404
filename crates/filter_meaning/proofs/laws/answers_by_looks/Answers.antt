use Rattle.filter_meaning.proofs.GoodPrimitives.{primitives_by_looks}
use Rattle.filter_meaning.proofs.GoodValues.{relations_by_looks}
use Rattle.filter_meaning.proofs.laws.answers_by_looks.Goals as goal

pub returns-clause-primitives : goal.returns-clause-primitives
returns-clause-primitives c = primitives_by_looks

pub returns-clause-relations : goal.returns-clause-relations
returns-clause-relations c = relations_by_looks
