use Rattle.std.proofs.Common.{List}
use Rattle.std.specs.List.{AllZip}
use Rattle.savefile.specs.declared.header.Order.{Order}
use Rattle.savefile.specs.declared.header.Unit.{Unit as TimeUnit}
use Rattle.savefile.specs.declared.packet.Packet.{Packet}
use Rattle.cli_split.specs.declared.part.Part.{Part}
use Rattle.cli_split.specs.Standing.{HasHandedOn, HasTaken}
use Rattle.cli_split.proofs.Lists.{Half}
use Rattle.cli_split.proofs.part.hand_on_all.Given as goal

-- those before the index have handed on
abbrev pub invariant-loop-outlet : goal.invariant-loop-outlet
invariant-loop-outlet g l =
    (order : Order) (unit : TimeUnit) (packets : List Packet) (parts : List (Part g.row.W.Denot))
    → AllZip (HasTaken g.W.Sink.taken g.W.Sink.name g.W.Sink.failures order unit packets) parts l.fn.outlets.items
    → Half (HasTaken g.W.Sink.taken g.W.Sink.name g.W.Sink.failures order unit packets) (HasHandedOn g.W.Sink.taken g.W.Sink.name g.W.Sink.failures g.W.GatheringSink.waits order unit packets) parts l.outlet-items l.outlet-index
