-- What is left of a pair: batches, hold and rest as a whole, and the counts.
use Rattle.std.specs.Prelude.{◌≡◌, ◌+◌, true, false, List, [], ◌∷◌, ◌++◌, length, Some, Contains}
use Rattle.listener.specs.declared.answer.Fed.TheVariants.{Stored, Held, Rotated, Dropped, Closed}
use Rattle.listener.specs.declared.answer.Counts.{Counts}
use Rattle.listener.specs.declared.message.Message.{Message}
use Rattle.listener.specs.Laws.{joined}
use Rattle.listener.specs.LookingBack.{kept, all_accepted}
use Rattle.listener.specs.PlainList.{requests}
use Rattle.handover.specs.declared.calls.Feed.{Feed}
use Rattle.handover.specs.declared.calls.Feed.TheVariants.{Arrive}
use Rattle.handover.specs.declared.calls.Take.{Take}
use Rattle.handover.specs.declared.view.Profile.{Profile}
use Rattle.handover.specs.Asks.{asks}
use Rattle.handover.specs.History.{events, merge, finds, ended_in, batches_of}
use Rattle.handover.specs.Rule.{terms_of}

-- what looking back keeps of the history of both lists
abbrev pub kept_of_history : Profile → List Feed → List Take → List Message
kept_of_history p fs ts = kept (terms_of p) (requests (events (merge fs ts)))

-- the messages of the arrivals that were answered Stored, Held or Rotated
abbrev pub stored_in : List Feed → List Message
stored_in [] = []
stored_in (Arrive (Some m) Stored ∷ fs) = m ∷ stored_in fs
stored_in (Arrive (Some m) Held ∷ fs) = m ∷ stored_in fs
stored_in (Arrive (Some m) Rotated ∷ fs) = m ∷ stored_in fs
stored_in (f ∷ fs) = stored_in fs

-- the messages of the accepted arrivals that were answered neither Closed nor Dropped
abbrev pub undropped_in : List Feed → List Message
undropped_in [] = []
undropped_in (Arrive (Some m) Closed ∷ fs) = undropped_in fs
undropped_in (Arrive (Some m) Dropped ∷ fs) = undropped_in fs
undropped_in (Arrive (Some m) answer ∷ fs) = m ∷ undropped_in fs
undropped_in (f ∷ fs) = undropped_in fs

-- What was read, the hold and then the rest are what is kept, and, by nothing but the answers, what was stored; each message is an accepted
-- arrival; what matched is what is kept and what was dropped; and where a read found the end, no call found the pair closed.
pub record IsWhole (p : Profile) (fs : List Feed) (ts : List Take) (hold rest : List Message) (counts : Counts) : Type 0 where
  pub whole : (joined (batches_of ts) ++ hold) ++ rest ≡ kept_of_history p fs ts
  pub stored : (joined (batches_of ts) ++ hold) ++ rest ≡ stored_in fs
  pub accepted : (m : Message) → Contains (kept_of_history p fs ts) m → Contains (all_accepted (asks fs)) m
  pub balance : counts.matched ≡ length (kept_of_history p fs ts) + counts.dropped
  pub unclosed : ended_in ts ≡ true → finds fs ≡ false
