-- The messages of a batch, which are read one by one.
use Rattle.std.specs.Prelude.{◌≡◌, ◌+◌, ◌<◌, ◌≤◌, ◌⊎◌, ℕ, List, [], ◌∷◌, length, take, drop}
use Rattle.listener.specs.declared.message.Message.{Message}
use Rattle.listener.specs.Decoded.{messages_in, AreRecords}
use Rattle.listener.specs.Messages.{size}
use Rattle.bpftap_c.specs.declared.messages.BpftapMessage.{BpftapMessage}

-- a message whose record begins here
abbrev pub message_found : ℕ → Message → BpftapMessage
message_found offset m =
    record { offset = offset + 32; place = m.place; fault = 0; capture = m.capture; seconds = m.sec; nanos = m.nanos; captured = length m.bytes; wire = m.len }

-- no message
abbrev pub no_message : ℕ → BpftapMessage
no_message offset = record { offset = offset; place = 0; fault = 4; capture = 0; seconds = 0; nanos = 0; captured = 0; wire = 0 }

-- The first of the messages whose records begin here, where its bytes are, and where the others begin: directly after its record.
pub record IsFirst (text : List ℕ) (old new : ℕ) (m : Message) (found : BpftapMessage) : Type 0 where
  pub first : messages_in (drop old text) ≡ m ∷ messages_in (drop new text)
  pub others : AreRecords (drop new text)
  pub after : new ≡ old + size (length m.bytes)
  pub is : found ≡ message_found old m
  pub bytes : take found.captured (drop found.offset text) ≡ m.bytes

-- Whatever the bytes are: a message that is found lies in the text, and the next one begins after it. Or none is found, and the place
-- stays.
abbrev pub LiesWithin : List ℕ → ℕ → ℕ → BpftapMessage → Type 0
LiesWithin text old new found =
    ((found.fault ≡ 0) × (old < found.offset) × (found.offset + found.captured ≤ new) × (new ≤ length text))
    ⊎ ((found ≡ no_message old) × (new ≡ old))

-- Where records begin, the first message is found, or there is none.
abbrev pub GivesMessage : List ℕ → ℕ → ℕ → BpftapMessage → Type 0
GivesMessage text old new found =
    AreRecords (drop old text) →
    ((m : Message) × IsFirst text old new m found)
    ⊎ ((messages_in (drop old text) ≡ []) × (found ≡ no_message old) × (new ≡ old))
