-- What the feeder knows by nothing but its own calls.
use Rattle.std.specs.Prelude.{ℕ, ◌+◌, Bool, true, false, cond, List, [], ◌∷◌, map}
use Rattle.listener.specs.declared.answer.Fed.TheVariants.{Passed, Dropped, Closed}
use Rattle.listener.specs.declared.message.Message.{Message}
use Rattle.listener.specs.PlainList.{PlainList, empty, next}
use Rattle.listener.specs.Laws.{hold_of, store_after}
use Rattle.handover.specs.declared.calls.Feed.{Feed}
use Rattle.handover.specs.declared.calls.Feed.TheVariants.{Arrive}
use Rattle.handover.specs.declared.calls.Take.TheVariants.{Full}
use Rattle.handover.specs.History.{Happening, fed, got, shut, event_of, kind, by_kind}

-- the read of the whole hold
abbrev pub reads_hold : PlainList → Happening
reads_hold s = got (Full (hold_of s))

-- A read directly before each call that stores 1 to `turn` but the first, and a close directly before the first call that found
-- it. `after` says that a call before these stored 1, and s is the list before them.
abbrev pub own_from : Bool → PlainList → List Feed → List Happening
own_from after s [] = []
own_from after s (f ∷ fs) = by_kind (kind f)
    (fed f ∷ own_from after (next s (event_of (fed f))) fs)
    (cond after
    (reads_hold s ∷ fed f ∷ own_from true (next (next s (event_of (reads_hold s))) (event_of (fed f))) fs)
    (fed f ∷ own_from true (next s (event_of (fed f))) fs))
    (shut ∷ map fed (f ∷ fs))

abbrev pub own : List Feed → List Happening
own fs = own_from false empty fs

-- the store after these calls, from a store before them
abbrev pub store_from : List Message → List Feed → List Message
store_from store [] = store
store_from store (f ∷ fs) = store_from (store_after store (event_of (fed f))) fs

abbrev pub store_of : List Feed → List Message
store_of fs = store_from [] fs

-- how many packets arrived at the open pair, how many of them the filter accepted, and how many of these found no room
abbrev pub received_in : List Feed → ℕ
received_in [] = 0
received_in (Arrive m Closed ∷ fs) = received_in fs
received_in (Arrive m answer ∷ fs) = 1 + received_in fs
received_in (f ∷ fs) = received_in fs

abbrev pub matched_in : List Feed → ℕ
matched_in [] = 0
matched_in (Arrive m Closed ∷ fs) = matched_in fs
matched_in (Arrive m Passed ∷ fs) = matched_in fs
matched_in (Arrive m answer ∷ fs) = 1 + matched_in fs
matched_in (f ∷ fs) = matched_in fs

abbrev pub dropped_in : List Feed → ℕ
dropped_in [] = 0
dropped_in (Arrive m Dropped ∷ fs) = 1 + dropped_in fs
dropped_in (f ∷ fs) = dropped_in fs
