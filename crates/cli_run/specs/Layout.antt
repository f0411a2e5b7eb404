-- The listeners of lines, laid out by interface.
use Rattle.std.specs.Prelude.{◌≡◌, ℕ, List, [], ◌∷◌, map, Some, slice_get, ◌==◌, if◌then◌else◌}
use Rattle.std.specs.List.{AllZip}
use Rattle.std.specs.declared.alloc.Global.{Global}
use Rattle.std.specs.declared.vec.Vec.{Vec}
use Rattle.bpfvm.specs.declared.insn.Insn.{Insn}
use Rattle.savefile.specs.declared.header.Order.TheVariants.{Little}
use Rattle.savefile.specs.declared.header.Unit.TheVariants.{Micro}
use Rattle.replay_types.specs.declared.report.InterfaceReport.{InterfaceReport}
use Rattle.replay_types.specs.declared.task.Interface.{Interface}
use Rattle.replay_types.specs.declared.task.Task.{Task}
use Rattle.cli_run.specs.declared.plan.RunLine.{RunLine}

-- the number of each line's interface
abbrev pub places_of : List RunLine → List ℕ
places_of lines = map (λ line. line.interface) lines

-- of a list with an item for each line, those whose lines name interface i, in the order of the lines
abbrev pub those_at : {X : Type 0} → ℕ → List ℕ → List X → List X
those_at i (place ∷ places) (x ∷ xs) = if place == i then x ∷ those_at i places xs else those_at i places xs
those_at i places xs = []

-- the task of a line: what it says, its program, and its sink; the capture is little-endian with microseconds
abbrev pub task_of : {W : Type 0} → RunLine → List Insn → W → Task W
task_of line program sink = record {
  program = program;
  snap = line.snap;
  capacity = line.capacity;
  mode = line.mode;
  flush_every = line.flush_every;
  spares = line.spares;
  order = Little;
  unit = Micro;
  sink = sink;
}

-- the task of each line
abbrev pub tasks_of : {W : Type 0} → List RunLine → List (List Insn) → List W → List (Task W)
tasks_of (line ∷ lines) (program ∷ programs) (sink ∷ sinks) = task_of line program sink ∷ tasks_of lines programs sinks
tasks_of lines programs sinks = []

-- There is an interface for each list of captures, with these captures, and with the tasks of the lines that name it, in their order.
pub record AreLaidOut {R W : Type 0} (places : List ℕ) (tasks : List (Task W)) (captures : List (Vec R Global)) (interfaces : List (Interface R W)) : Type 0 where
  pub with_captures : AllZip (λ its_captures interface. interface.captures.items ≡ its_captures.items) captures interfaces
  pub with_tasks : (i : ℕ) (interface : Interface R W) → slice_get interfaces i ≡ Some interface → interface.tasks.items ≡ those_at i places tasks

-- The sinks of the interfaces' listeners, in the order of the lines: of each interface they are those of its reports.
abbrev pub AreSinksOf : {R W : Type 0} → List ℕ → List (InterfaceReport R W) → List W → Type 0
AreSinksOf {R} {W} places reports sinks =
    (i : ℕ) (report : InterfaceReport R W) → slice_get reports i ≡ Some report → those_at i places sinks ≡ map (λ listener. listener.sink) report.listeners.items
