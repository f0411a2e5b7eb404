-- Looking back by positions: of the steps before a step, the latest first, the one that is n back has n after it. Each is
-- known from the steps before it.
use Rattle.std.specs.Prelude.{◌≡◌, ◌↔◌, ℕ, zero, suc, ◌+◌, ◌<◌, Bool, true, false, ◌||◌, List, [], ◌∷◌, Some, length, if◌then◌else◌}
use Rattle.listener.specs.declared.message.Message.{Message}
use Rattle.listener.specs.Messages.{size_of}
use Rattle.listener.specs.PlainList.{Terms, Request, Arrive}
use Rattle.listener.specs.LookingBack.{drops, hands, is_drop, is_read, makes_hold, size_at, load, hold_is_full}

-- the step n back is a Read
abbrev pub reads_at : List Request → ℕ → Bool
reads_at [] n = false
reads_at (step ∷ before) zero = is_read step
reads_at (step ∷ before) (suc n) = reads_at before n

-- the step n back makes the store the hold
abbrev pub makes_hold_at : Terms → List Request → ℕ → Bool
makes_hold_at t [] n = false
makes_hold_at t (step ∷ before) zero = makes_hold t (load t before) (hold_is_full t before) step
makes_hold_at t (step ∷ before) (suc n) = makes_hold_at t before n

-- how many bytes the step n back puts into the store: the size of an accepted arrival, which is no drop and isn't handed over
abbrev pub puts_at : Terms → List Request → ℕ → ℕ
puts_at t [] n = 0
puts_at t (step ∷ before) zero =
    if drops t (load t before) (hold_is_full t before) step || hands t (load t before) (hold_is_full t before) step then 0 else size_at step
puts_at t (step ∷ before) (suc n) = puts_at t before n

-- one of the n latest steps makes the store the hold
abbrev pub made_since : Terms → List Request → ℕ → Bool
made_since t before zero = false
made_since t before (suc n) = made_since t before n || makes_hold_at t before n

-- how many bytes of the step n back are still in the store: all that it put there, but none where the store has become the
-- hold since
abbrev pub stored_at : Terms → List Request → ℕ → ℕ
stored_at t before n = if made_since t before n then 0 else puts_at t before n

abbrev pub sum_below : ℕ → (ℕ → ℕ) → ℕ
sum_below zero f = 0
sum_below (suc n) f = sum_below n f + f n

-- the bytes of all arrivals that are still in the store
abbrev pub stored_in_all : Terms → List Request → ℕ
stored_in_all t before = sum_below (length before) (stored_at t before)

-- the hold is full: a step back makes it, and none since is a Read
abbrev pub HoldIsFull : Terms → List Request → Type 0
HoldIsFull t before =
    (n : ℕ) × (makes_hold_at t before n ≡ true) × ((k : ℕ) → k < n → reads_at before k ≡ false)

-- ---- Both are one

abbrev pub LoadIsByPositions : Type 0
LoadIsByPositions = (t : Terms) (before : List Request) → load t before ≡ stored_in_all t before

abbrev pub HoldIsByPositions : Type 0
HoldIsByPositions = (t : Terms) (before : List Request) → (hold_is_full t before ≡ true) ↔ HoldIsFull t before

-- An accepted arrival is a drop exactly where its size and what is still in the store exceed the capacity, and the hold is full.
abbrev pub DropIsByPositions : Type 0
DropIsByPositions =
    (t : Terms) (before : List Request) (m : Message) →
    (is_drop t before (Arrive (Some m)) ≡ true) ↔ ((t.capacity < stored_in_all t before + size_of m) × HoldIsFull t before)
