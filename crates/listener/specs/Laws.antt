-- What holds of the definitions, whatever the code does.
use Rattle.std.specs.Prelude.{◌≡◌, ◌↔◌, ℕ, ◌+◌, ◌≤◌, Bool, true, false, ◌⊎◌, List, [], ◌∷◌, ◌++◌, length, take, Some, None, Contains}
use Rattle.listener.specs.declared.answer.Fed.{Fed}
use Rattle.listener.specs.declared.answer.Fed.TheVariants.{Passed, Stored, Held, Rotated, Dropped, Closed}
use Rattle.listener.specs.declared.mode.Mode.TheVariants.{Buffered, Immediate}
use Rattle.listener.specs.declared.message.Message.{Message}
use Rattle.bpfvm.specs.declared.insn.Insn.{Insn}
use Rattle.listener.specs.Messages.{Arrival, kept_by, size, size_of, room}
use Rattle.listener.specs.PlainList.{Terms, terms, PlainList, Event, arrived, flushed, read, stored, load, IsRight, Legal, next, run, empty, batches, Request, Arrive, requests, request_of, answer, answers}
use Rattle.listener.specs.LookingBack.{before_close, all_accepted, kept, dropped, received, matched}

-- ---- Answers

-- the right answer to a request is right, and it is the only one
abbrev pub AnswersAreRight : Type 0
AnswersAreRight =
    (t : Terms) (s : PlainList) (r : Request)
    → IsRight t s (answer t s r) × ((e : Event) → request_of e ≡ r → IsRight t s e → e ≡ answer t s r)

-- so requests make one legal run
abbrev pub AnswersAreLegal : Type 0
AnswersAreLegal =
    (t : Terms) (s : PlainList) (rs : List Request)
    → Legal t s (answers t s rs) × (requests (answers t s rs) ≡ rs)
    × ((es : List Event) → requests es ≡ rs → Legal t s es → es ≡ answers t s rs)

-- the answer to an arrival and a flush directly after it, as one step
abbrev pub with_flush : Fed → Bool → Fed
with_flush Stored true = Held
with_flush fed full = fed

-- An arrival at an Immediate list is one at a Buffered list and then a flush, as one step.
abbrev pub ImmediateIsFlushed : Type 0
ImmediateIsFlushed =
    (capacity : ℕ) (s : PlainList) (m : Message) (fed first : Fed) (full : Bool) → size_of m ≤ capacity
    → IsRight (terms capacity Immediate) s (arrived (Some m) fed)
    → IsRight (terms capacity Buffered) s (arrived (Some m) first)
    → IsRight (terms capacity Buffered) (next s (arrived (Some m) first)) (flushed full)
    → (fed ≡ with_flush first full) × (next s (arrived (Some m) fed) ≡ next (next s (arrived (Some m) first)) (flushed full))

-- ---- Runs

-- a run of two lists of events is that of the second from where that of the first ends
abbrev pub RunsAppend : Type 0
RunsAppend = (s : PlainList) (es fs : List Event) → run s (es ++ fs) ≡ run (run s es) fs

abbrev pub LegalAppends : Type 0
LegalAppends = (t : Terms) (s : PlainList) (es fs : List Event) → Legal t s (es ++ fs) ↔ (Legal t s es × Legal t (run s es) fs)

abbrev pub BatchesAppend : Type 0
BatchesAppend = (es fs : List Event) → batches (es ++ fs) ≡ batches es ++ batches fs

-- ---- Store and hold

-- as many messages are held as pend, at most
abbrev pub HeldIsWithin : PlainList → Type 0
HeldIsWithin s = s.in_hold ≤ length s.pending

abbrev pub HeldStaysWithin : Type 0
HeldStaysWithin = (s : PlainList) (es : List Event) → HeldIsWithin s → HeldIsWithin (run s es)

-- the messages of the hold
abbrev pub hold_of : PlainList → List Message
hold_of s = take s.in_hold s.pending

-- the store after an event, known from the store before it
abbrev pub store_after : List Message → Event → List Message
store_after store (arrived (Some m) Stored) = store ++ m ∷ []
store_after store (arrived (Some m) Held) = []
store_after store (arrived (Some m) Rotated) = m ∷ []
store_after store (flushed true) = []
store_after store other = store

-- the hold after an event
abbrev pub hold_after : List Message → List Message → Event → List Message
hold_after hold store (arrived (Some m) Held) = store ++ m ∷ []
hold_after hold store (arrived (Some m) Rotated) = store
hold_after hold store (flushed true) = store
hold_after hold store (read (Some batch)) = []
hold_after hold store other = hold

-- what pends is the hold and then the store, and the event gives both
pub record Follows (s : PlainList) (e : Event) : Type 0 where
  pub store : stored (next s e) ≡ store_after (stored s) e
  pub hold : hold_of (next s e) ≡ hold_after (hold_of s) (stored s) e

abbrev pub BuffersFollow : Type 0
BuffersFollow = (t : Terms) (s : PlainList) (e : Event) → HeldIsWithin s → IsRight t s e → Follows s e

-- a message's record is within the capacity
abbrev pub FitsIn : ℕ → Request → Type 0
FitsIn capacity (Arrive (Some m)) = size_of m ≤ capacity
FitsIn capacity other = Unit {0}

-- What a filter keeps fits each capacity that has room for a snapshot length of data.
abbrev pub KeptFits : Type 0
KeptFits = (program : List Insn) (snap capacity : ℕ) (a : Arrival) → size snap ≤ capacity → FitsIn capacity (Arrive (kept_by program snap a))

abbrev pub AllFitIn : ℕ → List Request → Type 0
AllFitIn capacity [] = Unit {0}
AllFitIn capacity (step ∷ steps) = FitsIn capacity step × AllFitIn capacity steps

-- both buffers are within the capacity
pub record IsWithin (capacity : ℕ) (s : PlainList) : Type 0 where
  pub in_hold : HeldIsWithin s
  pub store : load s ≤ capacity
  pub hold : room (hold_of s) ≤ capacity

abbrev pub BuffersStayWithin : Type 0
BuffersStayWithin =
    (t : Terms) (s : PlainList) (es : List Event) → IsWithin t.capacity s → AllFitIn t.capacity (requests es) → Legal t s es
    → IsWithin t.capacity (run s es)

-- ---- Counts

-- how much an event adds to each count
abbrev pub adds_received : Event → ℕ
adds_received (arrived m Closed) = 0
adds_received (arrived m fed) = 1
adds_received other = 0

abbrev pub adds_matched : Event → ℕ
adds_matched (arrived m Passed) = 0
adds_matched other = adds_received other

abbrev pub adds_dropped : Event → ℕ
adds_dropped (arrived m Dropped) = 1
adds_dropped other = 0

pub record AddsToCounts (s : PlainList) (e : Event) : Type 0 where
  pub all_received : (next s e).received ≡ s.received + adds_received e
  pub all_matched : (next s e).matched ≡ s.matched + adds_matched e
  pub all_dropped : (next s e).dropped ≡ s.dropped + adds_dropped e

abbrev pub CountsFollow : Type 0
CountsFollow = (t : Terms) (s : PlainList) (e : Event) → IsRight t s e → AddsToCounts s e

-- no more were dropped than matched, and no more matched than were received
pub record IsCounted (s : PlainList) : Type 0 where
  pub matched : s.matched ≤ s.received
  pub dropped : s.dropped ≤ s.matched

abbrev pub CountsStayOrdered : Type 0
CountsStayOrdered = (s : PlainList) (es : List Event) → IsCounted s → IsCounted (run s es)

-- ---- Reads

abbrev pub IsRead : Event → Type 0
IsRead (read batch) = Unit {0}
IsRead other = ⊥

-- Only the store decides the event: whether the hold is full plays no part in it.
abbrev pub IsQuiet : Terms → PlainList → Event → Type 0
IsQuiet t s (arrived None Passed) = Unit {0}
IsQuiet t s (arrived (Some m) Stored) = t.mode ≡ Buffered
IsQuiet t s (flushed false) = stored s ≡ []
IsQuiet t s (arrived m Closed) = Unit {0}
IsQuiet t s other = ⊥

-- two events may come in either order, and leave the same state
pub record Commutes (t : Terms) (s : PlainList) (one other : Event) : Type 0 where
  pub first : IsRight t s other
  pub second : IsRight t (next s other) one
  pub same : next (next s other) one ≡ next (next s one) other

-- a read commutes with a quiet event, in either order
abbrev pub ReadsCommute : Type 0
ReadsCommute =
    (t : Terms) (s : PlainList) (e r : Event) → HeldIsWithin s → IsQuiet t s e → IsRead r
    → (IsRight t s e → IsRight t (next s e) r → Commutes t s e r) × (IsRight t s r → IsRight t (next s r) e → Commutes t s r e)

-- ---- Looking back

abbrev pub joined : List (List Message) → List Message
joined [] = []
joined (batch ∷ more) = batch ++ joined more

-- What was read and then what pends is what looking back keeps, and the counts are those of looking back.
pub record IsKept (t : Terms) (steps : List Request) (read : List (List Message)) (s : PlainList) : Type 0 where
  pub whole : joined read ++ s.pending ≡ kept t steps
  pub all_received : s.received ≡ received steps
  pub all_matched : s.matched ≡ matched steps
  pub all_dropped : s.dropped ≡ dropped t steps

-- each message is within the capacity: without this a message that is larger would rotate an empty store again and again
abbrev pub RunsAreKept : Type 0
RunsAreKept =
    (t : Terms) (es : List Event) → AllFitIn t.capacity (requests es) → Legal t empty es
    → IsKept t (requests es) (batches es) (run empty es)

-- what matched is what is kept and what is dropped
abbrev pub MatchedAreKeptOrDropped : Type 0
MatchedAreKeptOrDropped = (t : Terms) (steps : List Request) → matched steps ≡ length (kept t steps) + dropped t steps

-- one list is another with some messages left out
abbrev pub IsThinned : List Message → List Message → Type 0
IsThinned [] thin = thin ≡ []
IsThinned (m ∷ ms) thin = IsThinned ms thin ⊎ ((rest : List Message) × (thin ≡ m ∷ rest) × IsThinned ms rest)

-- what is kept are the accepted arrivals before the Close, in order, each once, with some left out
abbrev pub KeptIsThinned : Type 0
KeptIsThinned = (t : Terms) (steps : List Request) → IsThinned (all_accepted (before_close steps)) (kept t steps)

-- each kept message is an accepted arrival: what holds of all these holds of what is kept
abbrev pub KeptAreAccepted : Type 0
KeptAreAccepted = (t : Terms) (steps : List Request) (m : Message) → Contains (kept t steps) m → Contains (all_accepted steps) m
