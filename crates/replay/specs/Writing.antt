-- What a thread has written of the messages that it was handed.
use Rattle.std.specs.Prelude.{◌≡◌, ◌≢◌, ◌<◌, ℕ, ◌⊎◌, true, false, List, length, map, drop, min, Option}
use Rattle.listener.specs.declared.message.Message.{Message}
use Rattle.savefile.specs.declared.packet.Packet.{Packet}
use Rattle.savefile.specs.Savefile.{packet}
use Rattle.savefile.specs.Writer.{HasWritten, Sent}
use Rattle.replay.specs.Reports.{BreaksBehind, IsFull}
use Rattle.replay.specs.declared.capture_output.OutputFile.{OutputFile}
use Rattle.replay.specs.declared.capture_output.Written.{Written}

-- The message as it is written. Less than a second of nanoseconds stays as it is.
abbrev pub as_written : Message → Packet
as_written m = packet m.sec (min m.nanos 999999999) m.len m.bytes

-- a time has less than a second of nanoseconds
abbrev pub IsTimely : ℕ → Type 0
IsTimely nanos = nanos < 1000000000

-- The messages were written: all while no fault came; else a beginning, after which the sink failed or the text became too long.
pub record Writes {W : Type 0} (taken : W → Option (List ℕ)) (failures : W → ℕ) (o : OutputFile W) (messages : List Message) (w : Written W) : Type 0 where
  pub whole : w.works ≡ true → (w.count ≡ length messages)
      × HasWritten taken (taken o.sink) o.order o.unit o.snap (map as_written messages) w.writer
      × (failures w.writer.sink ≡ failures o.sink)
  pub broke : w.works ≡ false → (text : List ℕ)
      × BreaksBehind o.order o.unit o.snap (map as_written messages) w.count text
      × Sent taken (taken o.sink) text w.writer
      × ((failures w.writer.sink ≢ failures o.sink) ⊎ IsFull w.writer.sent (drop w.count messages))
