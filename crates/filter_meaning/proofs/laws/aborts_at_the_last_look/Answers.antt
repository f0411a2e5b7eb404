use Rattle.filter_meaning.proofs.GoodPrimitives.{primitives_end}
use Rattle.filter_meaning.proofs.GoodValues.{relations_end}
use Rattle.filter_meaning.proofs.laws.aborts_at_the_last_look.Goals as goal

pub returns-clause-primitives : goal.returns-clause-primitives
returns-clause-primitives c = primitives_end

pub returns-clause-relations : goal.returns-clause-relations
returns-clause-relations c = relations_end
