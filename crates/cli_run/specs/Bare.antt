-- Interfaces before their listeners are laid out, and after the replay.
use Rattle.std.specs.Prelude.{◌≡◌, ℕ, List, [], length, Some, slice_get}
use Rattle.std.specs.declared.alloc.Global.{Global}
use Rattle.std.specs.declared.vec.Vec.{Vec}
use Rattle.replay_types.specs.declared.report.InterfaceReport.{InterfaceReport}
use Rattle.replay_types.specs.declared.task.Interface.{Interface}
use Rattle.cli_run.specs.Layout.{those_at}

-- it has these captures, and no tasks
abbrev pub IsBare : {R W : Type 0} → Vec R Global → Interface R W → Type 0
IsBare captures interface = (interface.captures.items ≡ captures.items) × (interface.tasks.items ≡ [])

-- each interface has as many listeners as lines name it
abbrev pub HaveTheirListeners : {R W : Type 0} → List ℕ → List (InterfaceReport R W) → Type 0
HaveTheirListeners {R} {W} places reports =
    (i : ℕ) (report : InterfaceReport R W) → slice_get reports i ≡ Some report → length report.listeners.items ≡ length (those_at i places places)
