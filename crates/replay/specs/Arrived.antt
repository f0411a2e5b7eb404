-- What a capture gave to the listeners of an interface.
use Rattle.std.specs.Prelude.{ℕ, List, ◌++◌, All, Option}
use Rattle.listener.specs.Messages.{Arrival}
use Rattle.savefile.specs.Savefile.{IsWritable}
use Rattle.savefile.specs.declared.packet.Packet.{Packet}
use Rattle.replay.specs.Captures.{EndsSo, arrivals_from}
use Rattle.replay.specs.Lines.{Line, HasArrived}
use Rattle.replay.specs.declared.replaying_thread.Player.{Player}
use Rattle.replay_types.specs.declared.report.InterfaceEnd.{InterfaceEnd}

-- Packets of a capture arrived at the listeners, each writable, numbered from 0; and that is how it ended.
pub record HasGivenPackets (start : Option (List ℕ)) (source_failed : Type 0) (capture : ℕ) (old new : Player) (end : Option InterfaceEnd) : Type 0 where
  pub packets : List Packet
  pub writable : All IsWritable packets
  pub arrive : (starts : List Line) (playlist : List Arrival) → HasArrived starts playlist old → HasArrived starts (playlist ++ arrivals_from capture 0 packets) new
  pub ends : EndsSo start source_failed capture new.arrived packets end
