-- What the threads of a task did.
use Rattle.std.specs.Prelude.{◌≡◌, ◌++◌, ℕ, true, List, Option, IfSome}
use Rattle.atomic_table.specs.Seated.{TableId}
use Rattle.rtrb.specs.Ring.{all_sent, received, IsFinishedOf}
use Rattle.listener.specs.Laws.{joined}
use Rattle.handover.specs.History.{batches_of, ended_in}
use Rattle.handover.specs.Rule.{profile_of}
use Rattle.replay.specs.Reading.{messages_of}
use Rattle.replay.specs.Lines.{Line}
use Rattle.replay.specs.Rings.{ring_of}
use Rattle.replay.specs.Tasks.{line_for, output_of}
use Rattle.replay.specs.Writing.{Writes}
use Rattle.replay.specs.declared.states.task.TaskThreads.{TaskThreads}
use Rattle.replay.specs.declared.states.task.TaskDone.{TaskDone}
use Rattle.replay.specs.declared.states.task.TaskParts.{TaskParts}
use Rattle.replay.specs.declared.reading_thread.ReaderStop.TheVariants.{Ended}
use Rattle.replay_types.specs.declared.task.Task.{Task}

-- The drain came back. Where the ring's end was handed over, what was pushed is what was read; and what was popped of it, and
-- then of the ring of the rest, is written.
pub record IsDone {W : Type 0} (taken : W → Option (List ℕ)) (failures : W → ℕ) (d : TaskDone W) : Type 0 where
  pub profile : d.read.drain.profile ≡ profile_of d.task.value.capacity d.task.value.mode
  pub pushed : IfSome d.read.finished (λ f. IsFinishedOf f d.write.full × (messages_of (all_sent f) ≡ batches_of d.read.drain.takes))
  pub ended : d.read.stop ≡ Ended → ended_in d.read.drain.takes ≡ true
  pub writes : Writes taken failures (output_of d.task.value)
      (joined (messages_of (received d.write.full)) ++ joined (messages_of (received d.write.rest))) d.write.written

-- ---- Words on what the threads are given, and on the threads

abbrev pub parts_task : {W : Type 0} → TaskParts W → Task W
parts_task s = s.task.value

abbrev pub parts_pair : {W : Type 0} → TaskParts W → TableId
parts_pair s = s.drain.pair

-- the feeder that belongs to a task's threads, of which nothing was asked yet
abbrev pub parts_line : {W : Type 0} → TaskParts W → Line
parts_line s = line_for s.drain.pair (ring_of s.rest_out.end) s.task.value

abbrev pub threads_task : {W : Type 0} → TaskThreads W → Task W
threads_task c = c.task.value

abbrev pub threads_pair : {W : Type 0} → TaskThreads W → TableId
threads_pair c = c.reader.promise.drain.value.pair

abbrev pub threads_line : {W : Type 0} → TaskThreads W → Line
threads_line c = line_for c.reader.promise.drain.value.pair (ring_of c.writer.promise.rest.value.end) c.task.value
