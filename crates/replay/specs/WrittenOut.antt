-- What a thread has written of the buffers that came through its rings.
use Rattle.std.specs.Prelude.{◌++◌, ℕ, List, Option}
use Rattle.std.specs.declared.alloc.Global.{Global}
use Rattle.rtrb.specs.Ring.{received, SameConsumer}
use Rattle.rtrb.specs.declared.AnyItems.{AnyItems}
use Rattle.rtrb.specs.declared.consumer.Consumer.{Consumer}
use Rattle.listener.specs.Buffers.{Filled}
use Rattle.listener.specs.Laws.{joined}
use Rattle.replay.specs.Reading.{messages_of}
use Rattle.replay.specs.Writing.{Writes}
use Rattle.replay.specs.declared.capture_output.OutputFile.{OutputFile}
use Rattle.replay.specs.declared.writer_thread.WriteEnd.{WriteEnd}

-- what the buffers popped of the one ring contain was written, and then those of the other, which the rest comes through
pub record HasWrittenOut {W : Type 0} (taken : W → Option (List ℕ)) (failures : W → ℕ) (o : OutputFile W)
    (full rest : Consumer Filled Global AnyItems) (r : WriteEnd W) : Type 0 where
  pub ring : SameConsumer full r.full
  pub rest_ring : SameConsumer rest r.rest
  pub writes : Writes taken failures o (joined (messages_of (received r.full)) ++ joined (messages_of (received r.rest))) r.written
