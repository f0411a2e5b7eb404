-- The bytes of a buffer: the records of its messages, one after the other.
use Rattle.std.specs.Prelude.{ℕ, ◌-◌, List, ◌++◌, length, replicate}
use Rattle.std.specs.List.{flat_map}
use Rattle.byteorder.specs.Endian.{little_bytes}
use Rattle.listener.specs.declared.message.Message.{Message}
use Rattle.listener.specs.Messages.{size}

-- A record's fields, of 32 bytes: seconds, nanoseconds, kept length, length on the wire, place, capture, and zero.
unfoldable pub fields_text : ℕ → ℕ → ℕ → ℕ → ℕ → ℕ → List ℕ
fields_text sec nanos kept len place capture =
    little_bytes 4 sec ++ little_bytes 4 nanos ++ little_bytes 4 kept ++ little_bytes 4 len ++ little_bytes 8 place ++ little_bytes 4 capture ++ little_bytes 4 0

-- the zero bytes after this many bytes of data, up to a multiple of 8
abbrev pub padding : ℕ → ℕ
padding n = size n - 32 - n

-- a message's record: its fields, its data, and the padding
unfoldable pub record_text : Message → List ℕ
record_text m = fields_text m.sec m.nanos (length m.bytes) m.len m.place m.capture ++ (m.bytes ++ replicate (padding (length m.bytes)) 0)

unfoldable pub records_text : List Message → List ℕ
records_text messages = flat_map record_text messages
