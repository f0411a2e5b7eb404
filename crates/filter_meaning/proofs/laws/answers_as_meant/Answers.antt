use Rattle.filter_meaning.proofs.GoodPrimitives.{primitives_meant}
use Rattle.filter_meaning.proofs.GoodValues.{relations_meant}
use Rattle.filter_meaning.proofs.laws.answers_as_meant.Goals as goal

pub returns-clause-primitives : goal.returns-clause-primitives
returns-clause-primitives c = primitives_meant

pub returns-clause-relations : goal.returns-clause-relations
returns-clause-relations c = relations_meant
