use Rattle.filter_bdd.proofs.Tables.{found-gives}
use Rattle.filter_bdd.proofs.table.UniqueTable.place.Goals as goal

pub returns-in-Some-clause-gives : goal.returns-in-Some-clause-gives
returns-in-Some-clause-gives c = found-gives c.args.self.now c.args.node c.in-Some.place c.find.ensures.table c.in-Some.ensures.found
