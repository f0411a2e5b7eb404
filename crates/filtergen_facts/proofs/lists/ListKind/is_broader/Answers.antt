use Rattle.filtergen_facts.proofs.Settling.{covers-broader, on-true}
use Rattle.filtergen_facts.proofs.lists.ListKind.is_broader.Goals as goal

pub returns-then-is : goal.returns-then-is
returns-then-is c = on-true c.is_broader.result (covers-broader c.args.self c.args.other c.if-is.ensures.same) c.is_broader.ensures
