-- One history of a feeder's calls and a drain's reads.
use Rattle.std.specs.Prelude.{◌≡◌, Bool, true, false, List, [], ◌∷◌, ◌++◌, map, Some, None}
use Rattle.listener.specs.declared.answer.Fed.TheVariants.{Passed, Stored, Held, Rotated, Dropped, Closed}
use Rattle.listener.specs.declared.message.Message.{Message}
use Rattle.listener.specs.PlainList.{Terms, empty, Event, arrived, flushed, read, closed, Legal}
use Rattle.handover.specs.declared.calls.Feed.{Feed}
use Rattle.handover.specs.declared.calls.Feed.TheVariants.{Arrive, Flush, FlushClosed}
use Rattle.handover.specs.declared.calls.Take.{Take}
use Rattle.handover.specs.declared.calls.Take.TheVariants.{Full, Nothing, Ended}

-- A call of the feeder, a read of the drain, or the close of the drain as the feeder found it.
pub data Happening : Type 0 where
  fed : Feed → Happening
  got : Take → Happening
  shut : Happening

-- the event of the plain list that it is
abbrev pub event_of : Happening → Event
event_of (fed (Arrive m answer)) = arrived m answer
event_of (fed (Flush full)) = flushed full
event_of (fed FlushClosed) = flushed false
event_of (got (Full batch)) = read (Some batch)
event_of (got Nothing) = read None
event_of (got Ended) = read None
event_of shut = closed

abbrev pub events : List Happening → List Event
events [] = []
events (h ∷ hs) = event_of h ∷ events hs

-- the feeder's calls in a history
abbrev pub feeds_in : List Happening → List Feed
feeds_in [] = []
feeds_in (fed f ∷ hs) = f ∷ feeds_in hs
feeds_in (got t ∷ hs) = feeds_in hs
feeds_in (shut ∷ hs) = feeds_in hs

-- the drain's reads in a history
abbrev pub takes_in : List Happening → List Take
takes_in [] = []
takes_in (fed f ∷ hs) = takes_in hs
takes_in (got t ∷ hs) = t ∷ takes_in hs
takes_in (shut ∷ hs) = takes_in hs

-- What a call does to the order of a history: nothing, it stored 1 to `turn`, or it found the pair closed.
pub data Kind : Type 0 where
  plain : Kind
  stores : Kind
  finds_closed : Kind

abbrev pub kind : Feed → Kind
kind (Arrive m Passed) = plain
kind (Arrive m Stored) = plain
kind (Arrive m Held) = stores
kind (Arrive m Rotated) = stores
kind (Arrive m Dropped) = plain
kind (Arrive m Closed) = finds_closed
kind (Flush true) = stores
kind (Flush false) = plain
kind FlushClosed = finds_closed

abbrev pub by_kind : {A : Type 0} → Kind → A → A → A → A
by_kind plain p s c = p
by_kind stores p s c = s
by_kind finds_closed p s c = c

-- whether a call found the pair closed
abbrev pub finds : List Feed → Bool
finds [] = false
finds (f ∷ fs) = by_kind (kind f) (finds fs) (finds fs) true

-- neither a read nor a close
abbrev pub OnlyFeeds : List Happening → Type 0
OnlyFeeds [] = Unit {0}
OnlyFeeds (fed f ∷ hs) = OnlyFeeds hs
OnlyFeeds (got t ∷ hs) = ⊥
OnlyFeeds (shut ∷ hs) = ⊥

abbrev pub FirstFinds : List Happening → Type 0
FirstFinds [] = ⊥
FirstFinds (fed f ∷ hs) = kind f ≡ finds_closed
FirstFinds (got t ∷ hs) = ⊥
FirstFinds (shut ∷ hs) = ⊥

-- The close comes at most once, after all reads and directly before the first call that found it; and without it no call
-- found it.
abbrev pub CloseIsPlaced : List Happening → Type 0
CloseIsPlaced [] = Unit {0}
CloseIsPlaced (fed f ∷ hs) = (kind f ≡ finds_closed → ⊥) × CloseIsPlaced hs
CloseIsPlaced (got t ∷ hs) = CloseIsPlaced hs
CloseIsPlaced (shut ∷ hs) = FirstFinds hs × OnlyFeeds hs

-- no call of the feeder comes after an Ended
abbrev pub EndedIsLast : List Happening → Type 0
EndedIsLast [] = Unit {0}
EndedIsLast (fed f ∷ hs) = EndedIsLast hs
EndedIsLast (got (Full batch) ∷ hs) = EndedIsLast hs
EndedIsLast (got Nothing ∷ hs) = EndedIsLast hs
EndedIsLast (got Ended ∷ hs) = (feeds_in hs ≡ []) × EndedIsLast hs
EndedIsLast (shut ∷ hs) = EndedIsLast hs

-- A legal history of a feeder's calls and a drain's reads: each call of both stands in it once, in their orders, and every
-- answer is right in the run of the plain list from the empty one.
pub record LegalHistory (t : Terms) (fs : List Feed) (ts : List Take) (hs : List Happening) : Type 0 where
  pub feeds : feeds_in hs ≡ fs
  pub takes : takes_in hs ≡ ts
  pub close : CloseIsPlaced hs
  pub ended : EndedIsLast hs
  pub answers : Legal t empty (events hs)

-- ---- The history made by counting

-- a read goes in front of the first of these turns
abbrev pub with_read : Take → List (List Take) → List (List Take)
with_read t [] = (t ∷ []) ∷ []
with_read t (turn ∷ turns) = (t ∷ turn) ∷ turns

-- The reads cut into turns: those before the first Full, and then those from each Full to before the next one.
abbrev pub turns_of : List Take → List (List Take)
turns_of [] = [] ∷ []
turns_of (Full batch ∷ ts) = [] ∷ with_read (Full batch) (turns_of ts)
turns_of (Nothing ∷ ts) = with_read Nothing (turns_of ts)
turns_of (Ended ∷ ts) = with_read Ended (turns_of ts)

-- the reads of some turns
abbrev pub reads_of : List (List Take) → List Take
reads_of [] = []
reads_of (turn ∷ turns) = turn ++ reads_of turns

abbrev pub first_turn : List (List Take) → List Take
first_turn [] = []
first_turn (turn ∷ turns) = turn

abbrev pub later_turns : List (List Take) → List (List Take)
later_turns [] = []
later_turns (turn ∷ turns) = turns

-- The turns dealt out to the feeder's calls: each call that stores 1 to `turn` takes one, which stands directly before it. Those that
-- are left stand before the close, or at the end.
abbrev pub deal : List (List Take) → List Feed → List Happening
deal turns [] = map got (reads_of turns)
deal turns (f ∷ fs) = by_kind (kind f)
    (fed f ∷ deal turns fs)
    (map got (first_turn turns) ++ fed f ∷ deal (later_turns turns) fs)
    (map got (reads_of turns) ++ shut ∷ fed f ∷ map fed fs)

-- The history made by counting. Five calls, for example: the feeder's arrivals are answered Stored, Rotated and Dropped, the drain's
-- reads Nothing and then Full. So the turns are [Nothing] and [Full], and only Rotated stores 1 to `turn` and takes the first one:
-- Stored, Nothing, Rotated, Dropped, Full. If the third arrival is answered Rotated too, it takes the second turn, and the Full stands
-- directly before it.
abbrev pub merge : List Feed → List Take → List Happening
merge fs ts = deal (turns_of ts) fs

-- whether a read answered Ended
abbrev pub ended_in : List Take → Bool
ended_in [] = false
ended_in (Full batch ∷ ts) = ended_in ts
ended_in (Nothing ∷ ts) = ended_in ts
ended_in (Ended ∷ ts) = true

-- the batches of the reads
abbrev pub batches_of : List Take → List (List Message)
batches_of [] = []
batches_of (Full batch ∷ ts) = batch ∷ batches_of ts
batches_of (Nothing ∷ ts) = batches_of ts
batches_of (Ended ∷ ts) = batches_of ts
