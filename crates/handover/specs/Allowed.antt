-- Which calls a step may end, by the feeder's store.
use Rattle.std.specs.Prelude.{◌≡◌, ℕ, ◌+◌, ◌<◌, ◌≤◌, true, false, List, [], ◌∷◌, ◌++◌, length, Some, None}
use Rattle.listener.specs.declared.answer.Fed.TheVariants.{Passed, Stored, Held, Rotated, Dropped}
use Rattle.listener.specs.declared.mode.Mode.TheVariants.{Buffered, Immediate}
use Rattle.listener.specs.declared.message.Message.{Message}
use Rattle.listener.specs.Messages.{size_of, room}
use Rattle.listener.specs.PlainList.{Terms}
use Rattle.handover.specs.Own.{store_of}
use Rattle.handover.specs.declared.calls.Feed.{Feed}
use Rattle.handover.specs.declared.calls.Feed.TheVariants.{Arrive, Flush}

-- a call of an open pair that depends only on the store
abbrev pub Quiet : Terms → List Message → Feed → Type 0
Quiet t store (Arrive None Passed) = Unit {0}
Quiet t store (Arrive (Some m) Stored) = (t.mode ≡ Buffered) × (room store + size_of m ≤ t.capacity)
Quiet t store (Flush false) = store ≡ []
Quiet t store other = ⊥

-- a call that found the hold full
abbrev pub Busy : Terms → List Message → Feed → Type 0
Busy t store (Arrive (Some m) Stored) = (t.mode ≡ Immediate) × (room store + size_of m ≤ t.capacity)
Busy t store (Arrive (Some m) Dropped) = t.capacity < room store + size_of m
Busy t store (Flush false) = Unit {0}
Busy t store other = ⊥

-- a call that makes the store the hold
abbrev pub Loud : Terms → List Message → Feed → Type 0
Loud t store (Arrive (Some m) Held) = (t.mode ≡ Immediate) × (room store + size_of m ≤ t.capacity)
Loud t store (Arrive (Some m) Rotated) = (size_of m ≤ t.capacity) × (t.capacity < room store + size_of m)
Loud t store (Flush true) = 0 < length store
Loud t store other = ⊥

-- what it hands over
abbrev pub handed : List Message → Feed → List Message
handed store (Arrive (Some m) Held) = store ++ m ∷ []
handed store other = store

-- each message of the calls is within the capacity
abbrev pub AllFit : ℕ → List Feed → Type 0
AllFit capacity [] = Unit {0}
AllFit capacity (Arrive (Some m) answer ∷ fs) = (size_of m ≤ capacity) × AllFit capacity fs
AllFit capacity (f ∷ fs) = AllFit capacity fs

-- no call, or one that depends only on the store
abbrev pub IsQuiet : Terms → List Feed → List Feed → Type 0
IsQuiet t fs [] = Unit {0}
IsQuiet t fs (f ∷ []) = Quiet t (store_of fs) f × AllFit t.capacity (f ∷ [])
IsQuiet t fs (f ∷ g ∷ gs) = ⊥
