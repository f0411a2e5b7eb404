-- What a listener keeps of the packets that arrive, and the room that it takes in a buffer.
use Rattle.std.specs.Prelude.{◌≡◌, ℕ, ◌+◌, ◌*◌, ◌/◌, ◌≤◌, List, Option, Some, None, length, take, min, nat_lt, if◌then◌else◌}
use Rattle.std.specs.List.{sum_by}
use Rattle.savefile.specs.declared.packet.Packet.{Packet}
use Rattle.bpfvm.specs.declared.insn.Insn.{Insn}
use Rattle.bpfvm.specs.Machine.{verdict}
use Rattle.listener.specs.declared.message.Message.{Message}

-- the bytes of a record with this many bytes of data: 32 for its fields, and the data up to a multiple of 8
abbrev pub size : ℕ → ℕ
size n = 32 + (n + 7) / 8 * 8

-- the bytes of a message's record
unfoldable pub size_of : Message → ℕ
size_of m = size (length m.bytes)

-- the bytes of the records of several messages
unfoldable pub room : List Message → ℕ
room messages = sum_by size_of messages

-- A packet as it arrives: the number of its capture, and its place there.
pub record Arrival : Type 0 where
  pub capture : ℕ
  pub place : ℕ
  pub packet : Packet

abbrev pub arrival : ℕ → ℕ → Packet → Arrival
arrival capture place packet = record { capture = capture; place = place; packet = packet }

-- the message that is kept of an arrival: its first bytes, at most n, with its time and its length on the wire
abbrev pub cut_to : ℕ → Arrival → Message
cut_to n a = record { capture = a.capture; place = a.place; sec = a.packet.sec; nanos = a.packet.nanos; len = a.packet.len; bytes = take n a.packet.bytes }

-- What a filter program keeps of an arrival: nothing if its answer is 0, else at most as many bytes as the lesser of its
-- answer and the snapshot length.
unfoldable pub kept_by : List Insn → ℕ → Arrival → Option Message
kept_by program snap a =
    if nat_lt 0 (verdict program a.packet.bytes a.packet.len)
    then Some (cut_to (min (verdict program a.packet.bytes a.packet.len) snap) a)
    else None

-- this many of its first bytes are what the filter keeps of an arrival
pub record Keeps (program : List Insn) (snap : ℕ) (a : Arrival) (kept : ℕ) : Type 0 where
  pub message : kept_by program snap a ≡ Some (cut_to kept a)
  pub within : kept ≤ snap
  pub captured : kept ≤ length a.packet.bytes
