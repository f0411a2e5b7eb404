-- The steps of each call, in order, each with its number.
use Rattle.std.specs.Prelude.{◌≡◌, ℕ, ◌≤◌, Bool, true, false, List, [], ◌∷◌, ◌++◌}
use Rattle.listener.specs.declared.answer.Fed.TheVariants.{Passed, Stored, Held, Rotated, Dropped, Closed}
use Rattle.listener.specs.declared.mode.Mode.{Mode}
use Rattle.listener.specs.declared.mode.Mode.TheVariants.{Buffered, Immediate}
use Rattle.listener.specs.declared.message.Message.{Message}
use Rattle.handover.specs.declared.calls.Feed.{Feed}
use Rattle.handover.specs.declared.calls.Feed.TheVariants.{Arrive, Flush, FlushClosed}
use Rattle.handover.specs.declared.calls.Take.{Take}
use Rattle.handover.specs.declared.calls.Take.TheVariants.{Full, Nothing, Ended}
use Rattle.handover.specs.declared.calls.Word.TheVariants as word
use Rattle.handover.specs.declared.calls.WordStep.{WordStep}
use Rattle.handover.specs.declared.calls.WordStep.TheVariants.{Load, Store, Give}
use Rattle.handover.specs.Allowed.{handed}

-- the call found the pair open, and nothing else was asked
abbrev pub open_alone : List WordStep
open_alone = Load word.Closed 0 ∷ []

-- it found the pair open and the hold full
abbrev pub found_full : List WordStep
found_full = Load word.Closed 0 ∷ Load word.Turn 1 ∷ []

-- it found the pair open and the hold empty, and made these messages the hold
abbrev pub gave : List Message → List WordStep
gave given = Load word.Closed 0 ∷ Load word.Turn 0 ∷ Give given ∷ []

-- it found the pair closed
abbrev pub found_closed : List WordStep
found_closed = Load word.Closed 1 ∷ []

abbrev pub stored_steps : Mode → List WordStep
stored_steps Buffered = open_alone
stored_steps Immediate = found_full

-- of a flush that leaves this store as it was
abbrev pub kept_steps : List Message → List WordStep
kept_steps [] = open_alone
kept_steps (m ∷ ms) = found_full

-- the steps of a call of the feeder, by the mode and the store that it found
abbrev pub call_steps : Mode → List Message → Feed → List WordStep
call_steps mode store (Arrive m Passed) = open_alone
call_steps mode store (Arrive m Stored) = stored_steps mode
call_steps mode store (Arrive m Held) = gave (handed store (Arrive m Held))
call_steps mode store (Arrive m Rotated) = gave store
call_steps mode store (Arrive m Dropped) = found_full
call_steps mode store (Arrive m Closed) = found_closed
call_steps mode store (Flush true) = gave store
call_steps mode store (Flush false) = kept_steps store
call_steps mode store FlushClosed = found_closed

-- what a flush answered
abbrev pub FlushAnswers : Bool → Feed → Type 0
FlushAnswers full (Flush made) = full ≡ made
FlushAnswers full FlushClosed = full ≡ false
FlushAnswers full (Arrive m fed) = ⊥

-- of a read that found so much in `ended`, which is loaded first
abbrev pub read_steps : ℕ → Take → List WordStep
read_steps found (Full batch) = Load word.Ended found ∷ Load word.Turn 1 ∷ Store word.Turn 0 ∷ []
read_steps found Nothing = Load word.Ended found ∷ Load word.Turn 0 ∷ []
read_steps found Ended = Load word.Ended found ∷ Load word.Turn 0 ∷ []

-- what a read found in `ended`
abbrev pub FoundEnded : ℕ → Take → Type 0
FoundEnded found (Full batch) = found ≤ 1
FoundEnded found Nothing = found ≡ 0
FoundEnded found Ended = found ≡ 1

-- the steps grew by those of a read
abbrev pub GrewByRead : Take → List WordStep → List WordStep → Type 0
GrewByRead t old new = (found : ℕ) × FoundEnded found t × (new ≡ old ++ read_steps found t)
