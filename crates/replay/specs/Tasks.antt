-- What a task asks for.
use Rattle.std.specs.Prelude.{[]}
use Rattle.atomic_table.specs.Seated.{TableId}
use Rattle.handover.specs.Rule.{profile_of}
use Rattle.replay.specs.Lines.{Line}
use Rattle.replay.specs.Playing.{asking_of}
use Rattle.replay.specs.Rings.{Ring}
use Rattle.replay_types.specs.declared.task.Task.{Task}
use Rattle.replay.specs.declared.capture_output.OutputFile.{OutputFile}

-- the savefile that its packets are written to
abbrev pub output_of : {W : Type 0} → Task W → OutputFile W
output_of t = record { sink = t.sink; order = t.order; unit = t.unit; snap = t.snap }

-- the feeder of a pair that was made for a task, of which nothing was asked yet
abbrev pub line_for : {W : Type 0} → TableId → Ring → Task W → Line
line_for pair ring t = record { pair = pair; profile = profile_of t.capacity t.mode; asking = asking_of t; ring = ring; asks = [] }
