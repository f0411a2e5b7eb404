use Rattle.std.proofs.Common.{◌≡◌, ◌+◌, ◌-◌, ◌≤◌, ◌^◌, ℕ, List, [], ◌++◌, All, Option, length}
use Rattle.std.specs.Io.KnownBytes.{Consumes}
use Rattle.listener.specs.Messages.{Arrival}
use Rattle.savefile.specs.Reader.{HasGiven}
use Rattle.savefile.specs.Savefile.{IsWritable}
use Rattle.savefile.specs.declared.header.Header.{Header}
use Rattle.savefile.specs.declared.packet.Packet.{Packet}
use Rattle.replay.specs.Captures.{arrivals_from}
use Rattle.replay.specs.Lines.{Line, HasArrived}
use Rattle.replay.proofs.replaying_thread.Player.give_packets.Given as goal

-- the packets that the reader has given arrived
abbrev pub invariant-loop-place : goal.invariant-loop-place
invariant-loop-place g l =
    (l.self.arrived ≡ l.fn.self.arrived + l.place)
    × (l.self.arrived ≤ 2 ^ 64 - 2)
    × ((starts : List Line) × (playlist : List Arrival) × HasArrived starts playlist l.self)
    × (g.S.Source.failures l.reader.source ≡ g.S.Source.failures l.fn.reader.source)
    × ((bytes : List ℕ) × Consumes (g.S.Source.left l.fn.reader.source) (g.S.Source.left l.reader.source) bytes)
    × ((start : Option (List ℕ)) (header : Header) → HasGiven g.S.Source.left start header [] l.fn.reader →
    (packets : List Packet) × (length packets ≡ l.place) × All IsWritable packets × HasGiven g.S.Source.left start header packets l.reader
    × ((starts : List Line) (playlist : List Arrival) → HasArrived starts playlist l.fn.self → HasArrived starts (playlist ++ arrivals_from l.capture 0 packets) l.self))
