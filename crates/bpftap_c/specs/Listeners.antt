-- A listener in memory of the caller: one plain list, which each call leads one step on.
use Rattle.std.specs.Prelude.{◌≡◌, ◌≢◌, ◌≤◌, ◌==◌, ◌⊎◌, ℕ, Bool, false, true, List, [], ◌++◌, length, Option, Some, None, min, nat_lt, if◌then◌else◌}
use Rattle.bpfvm.specs.declared.insn.Insn.{Insn}
use Rattle.bpfvm.specs.Machine.{verdict}
use Rattle.listener.specs.declared.answer.Fed.{Fed}
use Rattle.listener.specs.declared.answer.Fed.TheVariants.{Passed, Stored, Held, Rotated, Dropped, Closed}
use Rattle.listener.specs.declared.fault.OpenFault.{OpenFault}
use Rattle.listener.specs.declared.fault.OpenFault.TheVariants.{BadCapacity, NoMemory}
use Rattle.listener.specs.declared.message.Message.{Message}
use Rattle.listener.specs.declared.mode.Mode.{Mode}
use Rattle.listener.specs.declared.mode.Mode.TheVariants.{Buffered, Immediate}
use Rattle.listener.specs.Listening.{InRange, RefusesOpen}
use Rattle.listener.specs.Messages.{Arrival, cut_to, kept_by}
use Rattle.listener.specs.PlainList.{Terms, terms, PlainList, plain, empty, Event, arrived, flushed, read, closed, IsStep}
use Rattle.bpftap_c.specs.declared.buffers.BpftapBuffer.{BpftapBuffer}
use Rattle.bpftap_c.specs.declared.listeners.BpftapListener.{BpftapListener}
use Rattle.bpftap_c.specs.declared.outcome.BpftapResult.{BpftapResult}
use Rattle.bpftap_c.specs.declared.outcome.Failure.TheVariants.{Open}
use Rattle.bpftap_c.specs.Buffers.{capacity, memory, messages, IsBuffer}
use Rattle.bpftap_c.specs.Outcome.{done, failed, open_code}

abbrev pub mode_of : ℕ → Mode
mode_of code = if code == 0 then Buffered else Immediate

abbrev pub is_closed : ℕ → Bool
is_closed code = if code == 0 then false else true

abbrev pub terms_of : BpftapListener → Terms
terms_of l = terms (capacity l.store) (mode_of l.mode)

abbrev pub list_of : BpftapListener → PlainList
list_of l =
    plain (messages l.hold ++ messages l.store) (length (messages l.hold)) l.received l.matched l.dropped (is_closed l.closed)

-- an open listener has two buffers of one capacity in its range, and counts of which one is part of the other
pub record IsOpen (l : BpftapListener) : Type 0 where
  pub same : capacity l.hold ≡ capacity l.store
  pub range : InRange l.snap (capacity l.store)
  pub matched : l.matched ≤ l.received
  pub dropped : l.dropped ≤ l.matched

-- what each call leaves in a listener, and the next one finds: records in both buffers, whether it is open or closed
pub record IsListener (l : BpftapListener) : Type 0 where
  pub store : IsBuffer l.store
  pub hold : IsBuffer l.hold
  pub if_open : l.closed ≡ 0 → IsOpen l

-- each buffer has its memory still
abbrev pub Keeps : BpftapListener → BpftapListener → Type 0
Keeps old new = (memory new.store ≡ memory old.store) × (memory new.hold ≡ memory old.hold)

-- each buffer has the memory of the other one
abbrev pub Exchanges : BpftapListener → BpftapListener → Type 0
Exchanges old new = (memory new.store ≡ memory old.hold) × (memory new.hold ≡ memory old.store)

-- Which memory the buffers have after a step. That of the hold after a read is said where the reader's is.
abbrev pub Moves : Event → BpftapListener → BpftapListener → Type 0
Moves (arrived kept Held) old new = Exchanges old new
Moves (arrived kept Rotated) old new = Exchanges old new
Moves (flushed true) old new = Exchanges old new
Moves (read taken) old new = memory new.store ≡ memory old.store
Moves other old new = Keeps old new

-- the number of a listener that is closed
abbrev pub closed_after : Event → ℕ → ℕ
closed_after closed code = 1
closed_after other code = code

-- one step of the plain list, which changes nothing else
pub record Takes (old : BpftapListener) (e : Event) (new : BpftapListener) : Type 0 where
  pub steps : IsStep (terms_of old) (list_of old) e (list_of new)
  pub snap : new.snap ≡ old.snap
  pub mode : new.mode ≡ old.mode
  pub closed : new.closed ≡ closed_after e old.closed
  pub terms : terms_of new ≡ terms_of old
  pub moves : Moves e old new
  pub is : IsListener new

-- What is kept of an arrival to which a filter answers this: nothing for 0, else as many bytes as the lesser of the answer and the
-- snapshot length.
abbrev pub kept_by_answer : ℕ → ℕ → Arrival → Option Message
kept_by_answer answer snap a = if nat_lt 0 answer then Some (cut_to (min answer snap) a) else None

-- it is what a listener keeps whose program answers this
abbrev pub AnswersKeep : Type 0
AnswersKeep =
    (program : List Insn) (snap : ℕ) (a : Arrival)
    → kept_by program snap a ≡ kept_by_answer (verdict program a.packet.bytes a.packet.len) snap a

abbrev pub fed_code : Fed → ℕ
fed_code Passed = 0
fed_code Stored = 1
fed_code Held = 2
fed_code Rotated = 3
fed_code Dropped = 4
fed_code Closed = 5

-- Why a listener of two buffers is not opened: its snapshot length, the capacity of its store, or another one of its hold.
abbrev pub RefusesListener : BpftapListener → OpenFault → Type 0
RefusesListener l NoMemory = ⊥
RefusesListener l fault =
    RefusesOpen l.snap (capacity l.store) fault
    ⊎ ((fault ≡ BadCapacity) × InRange l.snap (capacity l.store) × (capacity l.hold ≢ capacity l.store))

-- a buffer without messages, in the same memory
abbrev pub emptied : BpftapBuffer → BpftapBuffer
emptied b = record { bytes = b.bytes; size = 0 }

-- a listener of the same buffers, snapshot length and mode, to which nothing has arrived
abbrev pub reset : BpftapListener → ℕ → BpftapListener
reset l code = record { store = emptied l.store; hold = emptied l.hold; received = 0; matched = 0; dropped = 0; snap = l.snap; mode = l.mode; closed = code }

-- The listener is open, and nothing has arrived. Or it is refused for this fault, and is closed.
abbrev pub Opens : BpftapListener → BpftapListener → ℕ → Type 0
Opens old new fault =
    ((fault ≡ 0) × IsListener new × (list_of new ≡ empty) × (new ≡ reset old 0))
    ⊎ ((why : OpenFault) × RefusesListener old why × (fault ≡ open_code why) × IsListener new × (new ≡ reset old 1))

-- the same listener, closed: not a byte of its buffers changes
abbrev pub shut : BpftapListener → BpftapListener
shut l = record { store = l.store; hold = l.hold; received = l.received; matched = l.matched; dropped = l.dropped; snap = l.snap; mode = l.mode; closed = 1 }

-- the messages that a read took
abbrev pub batch_of : Option (List Message) → List Message
batch_of None = []
batch_of (Some ms) = ms

-- the hold of an open listener and the buffer that is brought exchange their memory
abbrev pub Trades : BpftapListener → BpftapBuffer → BpftapListener → BpftapBuffer → Type 0
Trades old brought new batch =
    ((old.closed ≡ 0) × (memory batch ≡ memory old.hold) × (memory new.hold ≡ memory brought))
    ⊎ ((old.closed ≢ 0) × (memory batch ≡ memory brought) × (memory new.hold ≡ memory old.hold))

-- The hold was read into a buffer of the listener's capacity that was brought. Or that has another capacity, and all is as it was.
abbrev pub Reads : BpftapListener → BpftapBuffer → BpftapListener → BpftapBuffer → BpftapResult → Type 0
Reads old brought new batch told =
    ((taken : Option (List Message)) × (capacity brought ≡ capacity old.store) × Takes old (read taken) new × (messages batch ≡ batch_of taken) × IsBuffer batch
    × (capacity batch ≡ capacity brought) × Trades old brought new batch × (told ≡ done batch.size))
    ⊎ ((capacity brought ≢ capacity old.store) × (told ≡ failed (Open BadCapacity)) × (new ≡ old) × (batch ≡ brought))
