-- Buffers as contracts see them.
use Rattle.std.specs.Prelude.{ℕ, ◌<◌, ◌≤◌, ◌⊎◌, List, [], ◌∷◌, ◌++◌, length}
use Rattle.savefile.specs.declared.record.TheConstants.{MAX_SNAP}
use Rattle.listener.specs.declared.buffer.TheConstants.{MAX_CAPACITY, MIN_CAPACITY}
use Rattle.listener.specs.declared.fault.OpenFault.{OpenFault}
use Rattle.listener.specs.declared.fault.OpenFault.TheVariants.{BadSnap, BadCapacity, NoMemory}
use Rattle.listener.specs.declared.message.Message.{Message}
use Rattle.listener.specs.declared.message.Record.{Record}

-- A buffer: the bytes that its records may take, and its messages, oldest first.
pub record Filled : Type 0 where
  pub capacity : ℕ
  pub messages : List Message

abbrev pub filled : ℕ → List Message → Filled
filled capacity messages = record { capacity = capacity; messages = messages }

-- a buffer with one message more
abbrev pub with_message : Filled → Message → Filled
with_message b m = filled b.capacity (b.messages ++ m ∷ [])

-- a message's data is as long as a savefile's record may have it
abbrev pub FitsSavefileRecord : Message → Type 0
FitsSavefileRecord m = length m.bytes ≤ MAX_SNAP

-- the message that a record shows
abbrev pub message_in : Record → Message
message_in r = record { capture = r.capture; place = r.place; sec = r.sec; nanos = r.nanos; len = r.len; bytes = r.bytes.now }

-- why a buffer isn't made; memory runs out only if its capacity is in range
abbrev pub RefusesBuffer : ℕ → OpenFault → Type 0
RefusesBuffer capacity BadSnap = ⊥
RefusesBuffer capacity BadCapacity = (capacity < MIN_CAPACITY) ⊎ (MAX_CAPACITY < capacity)
RefusesBuffer capacity NoMemory = (40 ≤ capacity) × (capacity ≤ MAX_CAPACITY)
