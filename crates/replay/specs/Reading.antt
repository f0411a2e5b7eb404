-- What a thread has read, and handed on through a ring.
use Rattle.std.specs.Prelude.{◌≡◌, true, List, map, IfSome}
use Rattle.std.specs.declared.alloc.Global.{Global}
use Rattle.rtrb.specs.Ends.{SameRing}
use Rattle.rtrb.specs.Ring.{all_sent}
use Rattle.rtrb.specs.declared.AnyItems.{AnyItems}
use Rattle.rtrb.specs.declared.producer.Producer.{Producer}
use Rattle.listener.specs.Buffers.{Filled}
use Rattle.listener.specs.declared.message.Message.{Message}
use Rattle.handover.specs.Ends.{Draining}
use Rattle.handover.specs.History.{batches_of, ended_in}
use Rattle.replay.specs.declared.reading_thread.ReaderEnd.{ReaderEnd}
use Rattle.replay.specs.declared.reading_thread.ReaderStop.TheVariants.{Ended}

-- the messages of each buffer
abbrev pub messages_of : List Filled → List (List Message)
messages_of buffers = map (λ b. b.messages) buffers

-- The drain came back closed. Where the ring's end was handed over, what was pushed is what was read; and where it stopped at
-- the end, a read found it.
pub record HasRead (drain : Draining) (full : Producer Filled Global AnyItems) (r : ReaderEnd) : Type 0 where
  pub pair : r.drain.pair ≡ drain.pair
  pub profile : r.drain.profile ≡ drain.profile
  pub pushed : IfSome r.finished (λ f. SameRing full.end f.end × (messages_of (all_sent f) ≡ batches_of r.drain.takes))
  pub ended : r.stop ≡ Ended → ended_in r.drain.takes ≡ true
