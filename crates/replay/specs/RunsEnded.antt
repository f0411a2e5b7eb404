-- What is promised of interfaces whose threads ran.
use Rattle.std.specs.Prelude.{◌≡◌, ℕ, List, length, map, Option}
use Rattle.std.specs.List.{AllZip}
use Rattle.std.specs.declared.alloc.Global.{Global}
use Rattle.std.specs.declared.vec.Vec.{Vec}
use Rattle.atomic_table.specs.Seated.{TableId}
use Rattle.listener.specs.Messages.{Arrival}
use Rattle.replay.specs.Captures.{GivesPlaylist}
use Rattle.replay.specs.TaskStates.{threads_pair, threads_task}
use Rattle.replay.specs.Replayed.{IsServed}
use Rattle.replay.specs.declared.states.interface.Running.{Running}
use Rattle.replay_types.specs.declared.report.InterfaceReport.{InterfaceReport}
use Rattle.replay_types.specs.declared.report.ListenerReport.{ListenerReport}

-- the links of its tasks' pairs
abbrev pub HasItsPairs : {S W : Type 0} → Vec TableId Global → Running S W → Type 0
HasItsPairs links running = map threads_pair running.all_threads.items ≡ links.items

-- the pair whose past a report has
abbrev pub past_pair : {W : Type 0} → ListenerReport W → TableId
past_pair r = r.past.pair

-- The captures that its thread was given make the playlist and the end, and each of its tasks was served with it. The past of
-- each report is that of the pair which the task's threads were started with.
pub record IsReportOf {S W : Type 0} (left : S → Option (List ℕ)) (broken : S → ℕ) (taken : W → Option (List ℕ)) (failures : W → ℕ)
    (running : Running S W) (r : InterfaceReport S W) : Type 0 where
  pub playlist : List Arrival
  pub plays : GivesPlaylist left broken (length playlist) 0 running.player.promise.captures.value.items r.sources.items playlist r.end
  pub pairs : map past_pair r.listeners.items ≡ map threads_pair running.all_threads.items
  pub served : AllZip (IsServed taken failures playlist) (map threads_task running.all_threads.items) r.listeners.items
