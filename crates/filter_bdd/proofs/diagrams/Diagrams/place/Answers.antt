use Rattle.filter_bdd.proofs.Calls.{results-grown}
use Rattle.filter_bdd.proofs.diagrams.Diagrams.place.Goals as goal

pub invariant_of-self : goal.invariant_of-self
invariant_of-self c = results-grown c.self.inside.table c.place.new.self c.self.inside.cache c.place.ensures.grew c.self.invariant
