-- How a buffer's messages are read from its bytes, and what is kept of these. Contracts of public calls speak only of the
-- messages.
use Rattle.std.specs.Prelude.{◌≡◌, ℕ, zero, suc, ◌^◌, ◌<◌, ◌≤◌, List, [], ◌∷◌, length, take, drop, Vec, vec_capacity, ◌==◌, if◌then◌else◌}
use Rattle.std.specs.List.{AllByRecursion}
use Rattle.byteorder.specs.Endian.{little_number}
use Rattle.savefile.specs.declared.record.TheConstants.{MAX_SNAP}
use Rattle.listener.specs.declared.buffer.TheConstants.{MAX_CAPACITY}
use Rattle.listener.specs.declared.message.Message.{Message}
use Rattle.listener.specs.Messages.{size}
use Rattle.listener.specs.RecordBytes.{records_text}

-- how many bytes of data the first record has
abbrev pub kept_in : List ℕ → ℕ
kept_in text = little_number 4 (drop 8 text)

-- the message of the first record
unfoldable pub first_in : List ℕ → Message
first_in text = record {
  capture = little_number 4 (drop 24 text);
  place = little_number 8 (drop 16 text);
  sec = little_number 4 (drop 0 text);
  nanos = little_number 4 (drop 4 text);
  len = little_number 4 (drop 12 text);
  bytes = take (kept_in text) (drop 32 text);
}

-- what follows the first record
unfoldable pub after_first : List ℕ → List ℕ
after_first text = drop (size (kept_in text)) text

-- the messages of at most this many records
abbrev pub messages_of : ℕ → List ℕ → List Message
messages_of zero text = []
messages_of (suc n) text = if length text == 0 then [] else first_in text ∷ messages_of n (after_first text)

-- the messages whose records a text is
unfoldable pub messages_in : List ℕ → List Message
messages_in text = messages_of (length text) text

-- a message whose fields have room in a record
pub record IsStored (m : Message) : Type 0 where
  pub sec : m.sec < 2 ^ 32
  pub nanos : m.nanos < 2 ^ 32
  pub kept : length m.bytes ≤ MAX_SNAP
  pub len : m.len < 2 ^ 32
  pub place : m.place < 2 ^ 64
  pub capture : m.capture < 2 ^ 32

-- a text is the records of such messages
pub record AreRecords (text : List ℕ) : Type 0 where
  pub is : text ≡ records_text (messages_in text)
  pub stored : AllByRecursion IsStored (messages_in text)

-- what is read of the records of messages are these messages
abbrev pub RoundTrip : Type 0
RoundTrip = (ms : List Message) → AllByRecursion IsStored ms → messages_in (records_text ms) ≡ ms

-- the bytes of a buffer of this capacity, which has this many messages
pub record IsBuffer {Z : Type 0} (bytes : Vec ℕ Z) (capacity count : ℕ) : Type 0 where
  pub reserved : capacity ≤ vec_capacity bytes
  pub within : length bytes.items ≤ capacity
  pub most : capacity ≤ MAX_CAPACITY
  pub records : AreRecords bytes.items
  pub counted : count ≡ length (messages_in bytes.items)
