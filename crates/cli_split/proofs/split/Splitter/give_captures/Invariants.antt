use Rattle.std.proofs.Common.{◌≡◌, ◌+◌, ◌<◌, ◌≤◌, true, List, ◌++◌, length, vec_capacity}
use Rattle.savefile.specs.declared.header.Order.{Order}
use Rattle.savefile.specs.declared.header.Unit.{Unit as TimeUnit}
use Rattle.savefile.specs.declared.packet.Packet.{Packet}
use Rattle.cli_split.specs.declared.part.Part.{Part}
use Rattle.cli_split.specs.Reading.{ReadsSoFar}
use Rattle.cli_split.specs.Splitting.{passes_header}
use Rattle.cli_split.specs.Standing.{HasParts, HasSplit}
use Rattle.cli_split.proofs.split.Splitter.give_captures.Given as goal

-- the captures that were read or left, and those to come
abbrev pub invariant-loop-source : goal.invariant-loop-source
invariant-loop-source g l =
    (goal.iterator-loop-source g).can_next l.source-iterator × (goal.iterator-loop-source g).is_finite l.source-iterator
    × HasParts g.W.Sink.taken g.W.Sink.name g.W.Sink.failures l.self
    × ((order : Order) (unit : TimeUnit) (packets : List Packet) (parts : List (Part g.row.W.Denot)) (all : List g.row.R.Denot)
    → HasSplit g.W.Sink.taken g.W.Sink.name g.W.Sink.failures order unit packets parts l.fn.self
    → ReadsSoFar g.R.Source.left g.R.Source.failures all l.fn.sources.items (length l.fn.sources.items) l.fn.captures.items packets l.fn.first
    → (more : List Packet) × HasSplit g.W.Sink.taken g.W.Sink.name g.W.Sink.failures order unit (packets ++ more) parts l.self
    × ReadsSoFar g.R.Source.left g.R.Source.failures all l.sources.items (length l.sources.items) l.source-iterator.rest.items (packets ++ more) l.end)
    × (passes_header l.fn.first ≡ true → passes_header l.end ≡ true)
    × (0 < length l.sources.items)
    × (length l.sources.items + length l.source-iterator.rest.items ≤ vec_capacity l.sources)
