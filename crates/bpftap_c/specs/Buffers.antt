-- Buffers of records in memory of the caller. The records are those of a listener's buffer, one after the other.
use denote.MutBor.{Gone, gone}
use Rattle.std.specs.Prelude.{◌≤◌, ℕ, List, length, take}
use Rattle.savefile.specs.Savefile.{packet}
use Rattle.listener.specs.declared.message.Message.{Message}
use Rattle.listener.specs.Decoded.{messages_in, AreRecords}
use Rattle.listener.specs.Messages.{Arrival, arrival}
use Rattle.bpftap_c.specs.declared.buffers.BpftapBuffer.{BpftapBuffer}
use Rattle.bpftap_c.specs.declared.captures.BpftapRecord.{BpftapRecord}

abbrev pub capacity : BpftapBuffer → ℕ
capacity b = length b.bytes.now

-- the memory that it has, whatever lies there
abbrev pub memory : BpftapBuffer → Gone
memory b = gone b.bytes

-- the bytes of its records
abbrev pub text_of : BpftapBuffer → List ℕ
text_of b = take b.size b.bytes.now

-- its messages, oldest first
abbrev pub messages : BpftapBuffer → List Message
messages b = messages_in (text_of b)

-- its first bytes are records
pub record IsBuffer (b : BpftapBuffer) : Type 0 where
  pub within : b.size ≤ capacity b
  pub records : AreRecords (text_of b)

-- a packet as it arrives, with the place, the time and the wire length of a record
abbrev pub arrival_of : ℕ → BpftapRecord → List ℕ → Arrival
arrival_of capture r bytes = arrival capture r.place (packet r.seconds r.nanos r.wire bytes)

-- a message of this record and these bytes
abbrev pub message_of : ℕ → BpftapRecord → List ℕ → Message
message_of capture r bytes = record { capture = capture; place = r.place; sec = r.seconds; nanos = r.nanos; len = r.wire; bytes = bytes }
