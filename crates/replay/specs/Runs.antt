-- Interfaces whose threads run.
use Rattle.std.specs.Prelude.{◌≡◌, map}
use Rattle.replay.specs.TaskStates.{threads_pair, threads_task, parts_pair, parts_task}
use Rattle.replay.specs.declared.states.interface.Running.{Running}
use Rattle.replay.specs.declared.states.interface.Prepared.{Prepared}

-- its threads read these captures, and work for these tasks
pub record IsRunningOf {R W : Type 0} (prepared : Prepared R W) (running : Running R W) : Type 0 where
  pub captures : running.player.promise.captures.value.items ≡ prepared.captures.items
  pub tasks : map threads_task running.all_threads.items ≡ map parts_task prepared.all_parts.items
  pub pairs : map threads_pair running.all_threads.items ≡ map parts_pair prepared.all_parts.items
