-- What is kept and what is dropped of a list of steps, by looking back from each step to those before it.
use Rattle.std.specs.Prelude.{ℕ, ◌+◌, Bool, true, false, not, ◌&&◌, ◌||◌, List, [], ◌∷◌, ◌++◌, Some, nat_lt, if◌then◌else◌}
use Rattle.listener.specs.declared.mode.Mode.{Mode}
use Rattle.listener.specs.declared.mode.Mode.TheVariants.{Buffered, Immediate}
use Rattle.listener.specs.declared.message.Message.{Message}
use Rattle.listener.specs.Messages.{size_of}
use Rattle.listener.specs.PlainList.{Terms, Request, Arrive, Flush, Read, Close}

-- the steps up to the first Close
abbrev pub before_close : List Request → List Request
before_close [] = []
before_close (Close ∷ steps) = []
before_close (step ∷ steps) = step ∷ before_close steps

-- the message of an accepted arrival
abbrev pub accepted : Request → List Message
accepted (Arrive (Some m)) = m ∷ []
accepted other = []

-- the messages of all accepted arrivals
abbrev pub all_accepted : List Request → List Message
all_accepted [] = []
all_accepted (step ∷ steps) = accepted step ++ all_accepted steps

abbrev pub is_arrival : Request → Bool
is_arrival (Arrive m) = true
is_arrival other = false

abbrev pub is_accepted : Request → Bool
is_accepted (Arrive (Some m)) = true
is_accepted other = false

abbrev pub is_read : Request → Bool
is_read Read = true
is_read other = false

abbrev pub is_immediate : Mode → Bool
is_immediate Buffered = false
is_immediate Immediate = true

-- a message is too large for a store of this load
abbrev pub is_over : Terms → ℕ → Message → Bool
is_over t load m = nat_lt t.capacity (load + size_of m)

-- A step is a drop, if the load before it is `load` and `hold_is_full` says whether the hold is full.
abbrev pub drops : Terms → ℕ → Bool → Request → Bool
drops t load hold_is_full (Arrive (Some m)) = is_over t load m && hold_is_full
drops t load hold_is_full other = false

-- A step is a rotation.
abbrev pub rotates : Terms → ℕ → Bool → Request → Bool
rotates t load hold_is_full (Arrive (Some m)) = is_over t load m && not hold_is_full
rotates t load hold_is_full Flush = nat_lt 0 load && not hold_is_full
rotates t load hold_is_full other = false

-- A step is a handing: an Immediate list stores a message and makes the store the hold.
abbrev pub hands : Terms → ℕ → Bool → Request → Bool
hands t load hold_is_full (Arrive (Some m)) = is_immediate t.mode && (not (is_over t load m) && not hold_is_full)
hands t load hold_is_full other = false

-- a rotation or a handing: the store becomes the hold
abbrev pub makes_hold : Terms → ℕ → Bool → Request → Bool
makes_hold t load hold_is_full step = rotates t load hold_is_full step || hands t load hold_is_full step

abbrev pub size_at : Request → ℕ
size_at (Arrive (Some m)) = size_of m
size_at other = 0

-- `before` is the list of the steps before a step, the latest first.
unfoldable mutual
  -- The sizes of the kept arrivals, from the latest rotation on, that rotation's own arrival included. After a handing
  -- over there is none: its own arrival isn't included.
  pub load : Terms → List Request → ℕ
  load t [] = 0
  load t (step ∷ before) =
      (if makes_hold t (load t before) (hold_is_full t before) step then 0 else load t before)
      + (if drops t (load t before) (hold_is_full t before) step || hands t (load t before) (hold_is_full t before) step then 0 else size_at step)

  -- a rotation or a handing stands before, with no Read between
  pub hold_is_full : Terms → List Request → Bool
  hold_is_full t [] = false
  hold_is_full t (step ∷ before) = makes_hold t (load t before) (hold_is_full t before) step || (not (is_read step) && hold_is_full t before)

abbrev pub is_drop : Terms → List Request → Request → Bool
is_drop t before step = drops t (load t before) (hold_is_full t before) step

-- the accepted arrivals that are no drops
abbrev pub kept_from : Terms → List Request → List Request → List Message
kept_from t before [] = []
kept_from t before (step ∷ later) =
    (if is_drop t before step then [] else accepted step) ++ kept_from t (step ∷ before) later

unfoldable pub kept : Terms → List Request → List Message
kept t steps = kept_from t [] (before_close steps)

-- how many drops there are
abbrev pub drops_from : Terms → List Request → List Request → ℕ
drops_from t before [] = 0
drops_from t before (step ∷ later) = (if is_drop t before step then 1 else 0) + drops_from t (step ∷ before) later

unfoldable pub dropped : Terms → List Request → ℕ
dropped t steps = drops_from t [] (before_close steps)

-- how many steps pass a test
abbrev pub count : (Request → Bool) → List Request → ℕ
count test [] = 0
count test (step ∷ steps) = (if test step then 1 else 0) + count test steps

unfoldable pub received : List Request → ℕ
received steps = count is_arrival (before_close steps)

unfoldable pub matched : List Request → ℕ
matched steps = count is_accepted (before_close steps)
