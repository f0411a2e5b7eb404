-- What a replaying thread did.
use Rattle.std.specs.Prelude.{◌≡◌, ℕ, List, length, map, All, Option}
use Rattle.listener.specs.Messages.{Arrival}
use Rattle.replay.specs.Captures.{GivesPlaylist}
use Rattle.replay.specs.Lines.{Line, ended_all, ended_of, fed_all}
use Rattle.replay.specs.declared.replaying_thread.PlayEnd.{PlayEnd}
use Rattle.replay.specs.Writing.{IsTimely}

-- The packets of the captures arrived at the feeders, and these have ended.
pub record HasPlayedOut {R : Type 0} (left : R → Option (List ℕ)) (failures : R → ℕ) (starts : List Line) (captures : List R) (r : PlayEnd R) : Type 0 where
  pub playlist : List Arrival
  pub timely : All (λ (a : Arrival). IsTimely a.packet.nanos) playlist
  pub plays : GivesPlaylist left failures (length playlist) 0 captures r.sources.items playlist r.end
  pub ends : map ended_of r.ends.items ≡ ended_all (map (fed_all playlist) starts)
