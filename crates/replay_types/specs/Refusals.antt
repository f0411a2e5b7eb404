-- Why a replay is not started.
use Rattle.std.specs.Prelude.{◌≡◌, ℕ, ◌<◌, ◌≤◌, ◌⊎◌, List, length, take, Some, slice_get, All}
use Rattle.listener.specs.Listening.{InRange, RefusesOpen}
use Rattle.listener.specs.declared.fault.OpenFault.{OpenFault}
use Rattle.listener.specs.declared.fault.OpenFault.TheVariants.{BadSnap, BadCapacity, NoMemory}
use Rattle.replay_types.specs.declared.fault.RunFault.{RunFault}
use Rattle.replay_types.specs.declared.fault.RunFault.TheVariants.{TooMany, Open, NoStart}
use Rattle.replay_types.specs.declared.task.Interface.{Interface}
use Rattle.replay_types.specs.declared.task.Task.{Task}

-- ---- The limits

abbrev pub IsInBounds : {R W : Type 0} → Interface R W → Type 0
IsInBounds i = (length i.tasks.items ≤ 64) × (length i.captures.items ≤ 65536)

abbrev pub AreFew : {R W : Type 0} → List (Interface R W) → Type 0
AreFew interfaces = (length interfaces ≤ 16) × All IsInBounds interfaces

-- ---- Tasks

-- a task's listener can be opened, and a right number of buffers goes round
abbrev pub TaskIsRight : {W : Type 0} → Task W → Type 0
TaskIsRight t = InRange t.snap t.capacity × (1 ≤ t.spares) × (t.spares ≤ 64)

-- why a task is refused
abbrev pub RefusesTask : {W : Type 0} → Task W → OpenFault → Type 0
RefusesTask t BadSnap = RefusesOpen t.snap t.capacity BadSnap
RefusesTask t BadCapacity = RefusesOpen t.snap t.capacity BadCapacity ⊎ (InRange t.snap t.capacity × ((t.spares < 1) ⊎ (64 < t.spares)))
RefusesTask t NoMemory = ⊥

-- the first of the tasks of interface i that is refused
abbrev pub RefusesTasks : {W : Type 0} → ℕ → List (Task W) → RunFault → Type 0
RefusesTasks {W} i tasks (Open n k fault) =
    (n ≡ i) × (task : Task W) × (slice_get tasks k ≡ Some task) × RefusesTask task fault × All TaskIsRight (take k tasks)
RefusesTasks i tasks other = ⊥

-- ---- The whole

abbrev pub InterfaceIsRight : {R W : Type 0} → Interface R W → Type 0
InterfaceIsRight i = All TaskIsRight i.tasks.items

-- no fault stands
pub record NoneStands {R W : Type 0} (interfaces : List (Interface R W)) : Type 0 where
  pub number : AreFew interfaces
  pub tasks : All InterfaceIsRight interfaces

-- Why a replay is not started: the first fault that stands. Where none does, memory or a thread can be refused.
abbrev pub IsFirst : {R W : Type 0} → List (Interface R W) → RunFault → Type 0
IsFirst interfaces TooMany = AreFew interfaces → ⊥
IsFirst {R} {W} interfaces (Open i k fault) =
    AreFew interfaces × (interface : Interface R W) × (slice_get interfaces i ≡ Some interface)
    × RefusesTasks i interface.tasks.items (Open i k fault) × All InterfaceIsRight (take i interfaces)
IsFirst interfaces NoStart = NoneStands interfaces
