-- What is promised of a replay.
use Rattle.std.specs.Prelude.{◌≡◌, ℕ, ◌+◌, List, length, Option}
use Rattle.std.specs.List.{AllZip}
use Rattle.listener.specs.Messages.{Arrival}
use Rattle.handover.specs.Asks.{asks}
use Rattle.handover.specs.Rule.{profile_of}
use Rattle.replay.specs.Captures.{GivesPlaylist}
use Rattle.replay.specs.Playing.{asked, asking_of}
use Rattle.replay.specs.Reports.{IsReported}
use Rattle.replay_types.specs.declared.report.InterfaceReport.{InterfaceReport}
use Rattle.replay_types.specs.declared.report.ListenerReport.{ListenerReport}
use Rattle.replay_types.specs.declared.report.TaskEnd.TheVariants.{Clean}
use Rattle.replay_types.specs.declared.task.Interface.{Interface}
use Rattle.replay_types.specs.declared.task.Task.{Task}

-- A task's feeder was asked for the playlist and the flushes that are due; its calls and the drain's reads make the history that
-- the report gives. They are those of the report's past, which only a settled pair gives, and which has the task's capacity and
-- mode. Where the task ends Clean, the whole playlist was received, and what matched was written or dropped.
pub record IsServed {W : Type 0} (taken : W → Option (List ℕ)) (failures : W → ℕ) (playlist : List Arrival) (task : Task W) (r : ListenerReport W) : Type 0 where
  pub profile : r.past.profile ≡ profile_of task.capacity task.mode
  pub asked_for : asks r.past.feeds ≡ asked (asking_of task) playlist
  pub reported : IsReported taken failures task r.past.feeds r.past.takes r
  pub whole : r.end ≡ Clean → (r.received ≡ length playlist) × (r.matched ≡ r.written + r.dropped)

-- What became of an interface: the captures give the playlist and the end, and each task was served with it.
pub record IsReplayed {S W : Type 0} (left : S → Option (List ℕ)) (broken : S → ℕ) (taken : W → Option (List ℕ)) (failures : W → ℕ)
    (interface : Interface S W) (r : InterfaceReport S W) : Type 0 where
  pub playlist : List Arrival
  pub plays : GivesPlaylist left broken (length playlist) 0 interface.captures.items r.sources.items playlist r.end
  pub served : AllZip (IsServed taken failures playlist) interface.tasks.items r.listeners.items
