-- What is made before the threads of a replay are started.
use Rattle.std.specs.Prelude.{◌≡◌, map}
use Rattle.std.specs.declared.alloc.Global.{Global}
use Rattle.std.specs.declared.vec.Vec.{Vec}
use Rattle.atomic_table.specs.Seated.{TableId}
use Rattle.replay.specs.TaskStates.{parts_pair, parts_task}
use Rattle.replay.specs.declared.states.interface.Prepared.{Prepared}
use Rattle.replay_types.specs.declared.task.Interface.{Interface}

-- the links of its tasks' pairs
abbrev pub HasLinks : {R W : Type 0} → Vec TableId Global → Prepared R W → Type 0
HasLinks links prepared = map parts_pair prepared.all_parts.items ≡ links.items

-- it is made of this interface
abbrev pub IsPreparedFor : {R W : Type 0} → Interface R W → Prepared R W → Type 0
IsPreparedFor i prepared = (map parts_task prepared.all_parts.items ≡ i.tasks.items) × (prepared.captures.items ≡ i.captures.items)
