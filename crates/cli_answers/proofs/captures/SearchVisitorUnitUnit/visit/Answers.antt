use Rattle.std.proofs.Common.{ap}
use Rattle.cli_walk.specs.Walking.{visited}
use Rattle.cli_answers.proofs.captures.SearchVisitorUnitUnit.visit.Goals as goal

pub returns-clause-visits : goal.returns-clause-visits
returns-clause-visits g c = (c.find_first-source.result, c.find_first-source.ensures.seeks, ap (visited c.find_first-source.result.source) c.goes_on_to_find.ensures)
