-- The plain list of one listener: what pends, and how many of it are held. An event has its answer: `IsRight` says when the
-- answer is right, and `next` what changes, as the table of steps in the crate's README.md has both.
use Rattle.std.specs.Prelude.{◌≡◌, ℕ, ◌+◌, ◌<◌, ◌≤◌, Bool, true, false, ◌⊎◌, List, [], ◌∷◌, ◌++◌, length, take, drop, Option, Some, None, nat_lt, nat_le, if◌then◌else◌}
use Rattle.listener.specs.declared.answer.Fed.{Fed}
use Rattle.listener.specs.declared.answer.Fed.TheVariants.{Passed, Stored, Held, Rotated, Dropped, Closed}
use Rattle.listener.specs.declared.mode.Mode.{Mode}
use Rattle.listener.specs.declared.mode.Mode.TheVariants.{Buffered, Immediate}
use Rattle.listener.specs.declared.message.Message.{Message}
use Rattle.listener.specs.Messages.{size_of, room}

-- The terms of a list: how many bytes a buffer has room for, and when the store becomes the hold.
pub record Terms : Type 0 where
  pub capacity : ℕ
  pub mode : Mode

abbrev pub terms : ℕ → Mode → Terms
terms capacity mode = record { capacity = capacity; mode = mode }

-- What pends, oldest first; how many of it are held; the counts; whether it is closed.
pub record PlainList : Type 0 where
  pub pending : List Message
  pub in_hold : ℕ
  pub received : ℕ
  pub matched : ℕ
  pub dropped : ℕ
  pub closed : Bool

abbrev pub plain : List Message → ℕ → ℕ → ℕ → ℕ → Bool → PlainList
plain p h r m d c = record { pending = p; in_hold = h; received = r; matched = m; dropped = d; closed = c }

abbrev pub empty : PlainList
empty = plain [] 0 0 0 0 false

-- A step, with its answer.
pub data Event : Type 0 where
  -- what the filter keeps of a packet that arrived, nothing where it rejects it, and what became of it
  arrived : Option Message → Fed → Event
  -- whether the store became the hold
  flushed : Bool → Event
  -- the batch that a read took, where it took one
  read : Option (List Message) → Event
  closed : Event

-- the messages that are not held: those of the store
abbrev pub stored : PlainList → List Message
stored s = drop s.in_hold s.pending

abbrev pub load : PlainList → ℕ
load s = room (stored s)

-- a message that went into the store stays there
abbrev pub StaysStored : Mode → PlainList → Type 0
StaysStored Buffered s = Unit {0}
StaysStored Immediate s = 0 < s.in_hold

-- the store becomes the hold directly after a message went into it
abbrev pub IsHandedOver : Mode → PlainList → Type 0
IsHandedOver Buffered s = ⊥
IsHandedOver Immediate s = s.in_hold ≡ 0

-- the answer is right in this state
abbrev pub IsRight : Terms → PlainList → Event → Type 0
IsRight t s (arrived None Passed) = s.closed ≡ false
IsRight t s (arrived (Some m) Stored) = (s.closed ≡ false) × (load s + size_of m ≤ t.capacity) × StaysStored t.mode s
IsRight t s (arrived (Some m) Held) = (s.closed ≡ false) × (load s + size_of m ≤ t.capacity) × IsHandedOver t.mode s
IsRight t s (arrived (Some m) Rotated) = (s.closed ≡ false) × (t.capacity < load s + size_of m) × (s.in_hold ≡ 0)
IsRight t s (arrived (Some m) Dropped) = (s.closed ≡ false) × (t.capacity < load s + size_of m) × (0 < s.in_hold)
IsRight t s (arrived m Closed) = s.closed ≡ true
IsRight t s (arrived m fed) = ⊥
IsRight t s (flushed true) = (s.closed ≡ false) × (s.in_hold ≡ 0) × (0 < length s.pending)
IsRight t s (flushed false) = (s.closed ≡ true) ⊎ (0 < s.in_hold) ⊎ (s.pending ≡ [])
IsRight t s (read (Some batch)) = (s.closed ≡ false) × (0 < s.in_hold) × (batch ≡ take s.in_hold s.pending)
IsRight t s (read None) = (s.closed ≡ true) ⊎ (s.in_hold ≡ 0)
IsRight t s closed = Unit {0}

-- the state after the event
abbrev pub next : PlainList → Event → PlainList
next s (arrived None Passed) = plain s.pending s.in_hold (s.received + 1) s.matched s.dropped s.closed
next s (arrived (Some m) Stored) = plain (s.pending ++ m ∷ []) s.in_hold (s.received + 1) (s.matched + 1) s.dropped s.closed
next s (arrived (Some m) Held) = plain (s.pending ++ m ∷ []) (length (s.pending ++ m ∷ [])) (s.received + 1) (s.matched + 1) s.dropped s.closed
next s (arrived (Some m) Rotated) = plain (s.pending ++ m ∷ []) (length s.pending) (s.received + 1) (s.matched + 1) s.dropped s.closed
next s (arrived (Some m) Dropped) = plain s.pending s.in_hold (s.received + 1) (s.matched + 1) (s.dropped + 1) s.closed
next s (arrived m fed) = s
next s (flushed true) = plain s.pending (length s.pending) s.received s.matched s.dropped s.closed
next s (flushed false) = s
next s (read (Some batch)) = plain (drop s.in_hold s.pending) 0 s.received s.matched s.dropped s.closed
next s (read None) = s
next s closed = plain s.pending s.in_hold s.received s.matched s.dropped true

-- one step: the answer is right, and this is the change
pub record IsStep (t : Terms) (old : PlainList) (e : Event) (new : PlainList) : Type 0 where
  pub is_right : IsRight t old e
  pub change : new ≡ next old e

-- ---- Whole runs

abbrev pub run : PlainList → List Event → PlainList
run s [] = s
run s (e ∷ es) = run (next s e) es

-- each answer is right, from the state s on
abbrev pub Legal : Terms → PlainList → List Event → Type 0
Legal t s [] = Unit {0}
Legal t s (e ∷ es) = IsRight t s e × Legal t (next s e) es

-- the batch that an event read
abbrev pub batch_in : Event → List (List Message)
batch_in (read (Some batch)) = batch ∷ []
batch_in other = []

abbrev pub batches : List Event → List (List Message)
batches [] = []
batches (e ∷ es) = batch_in e ++ batches es

-- ---- Steps without answers

pub data Request : Type 0 where
  Arrive : Option Message → Request
  Flush : Request
  Read : Request
  Close : Request

abbrev pub request_of : Event → Request
request_of (arrived m fed) = Arrive m
request_of (flushed full) = Flush
request_of (read batch) = Read
request_of closed = Close

abbrev pub requests : List Event → List Request
requests [] = []
requests (e ∷ es) = request_of e ∷ requests es

-- what becomes of a message that is within the capacity while the hold is empty
abbrev pub fed_in : Mode → Fed
fed_in Buffered = Stored
fed_in Immediate = Held

-- the right answers: that each of them is right, and no other, is the law `AnswersAreRight`
abbrev pub fed_by : Terms → PlainList → Option Message → Fed
fed_by t s None = if s.closed then Closed else Passed
fed_by t s (Some m) =
    if s.closed then Closed
    else if nat_le (load s + size_of m) t.capacity then (if nat_lt 0 s.in_hold then Stored else fed_in t.mode)
    else if nat_lt 0 s.in_hold then Dropped
    else Rotated

abbrev pub answer : Terms → PlainList → Request → Event
answer t s (Arrive m) = arrived m (fed_by t s m)
answer t s Flush = flushed (if s.closed then false else if nat_lt 0 s.in_hold then false else nat_lt 0 (length s.pending))
answer t s Read = read (if s.closed then None else if nat_lt 0 s.in_hold then Some (take s.in_hold s.pending) else None)
answer t s Close = closed

-- the events that requests make
abbrev pub answers : Terms → PlainList → List Request → List Event
answers t s [] = []
answers t s (r ∷ rs) = answer t s r ∷ answers t (next s (answer t s r)) rs
