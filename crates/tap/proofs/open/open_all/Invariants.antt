use Rattle.std.proofs.Common.{take}
use Rattle.std.specs.List.{AllZip}
use Rattle.tap.specs.Filters.{AreExpressionsOf}
use Rattle.tap.specs.Opening.{Opened}
use Rattle.tap.proofs.open.open_all.Given as goal

abbrev pub invariant-loop-l : goal.invariant-loop-l
invariant-loop-l l = AllZip (Opened l.traced) (take l.l l.specs) l.watched.items × AreExpressionsOf (take l.l l.specs) l.expressions.items
