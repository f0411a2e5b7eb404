-- The steps of both ends in one order, and what the words are after them.
use Rattle.std.specs.Prelude.{◌≡◌, ℕ, Bool, true, false, ◌||◌, ◌⊎◌, List, [], ◌∷◌, slice_index, slice_set}
use mathlib.Core.List.{IsPrefix}
use Rattle.listener.specs.declared.message.Message.{Message}
use Rattle.handover.specs.declared.calls.Word.{Word}
use Rattle.handover.specs.declared.calls.Word.TheVariants.{Turn, Closed, Ended}
use Rattle.handover.specs.declared.calls.WordStep.{WordStep}
use Rattle.handover.specs.declared.calls.WordStep.TheVariants.{Load, Store, Give}
use Rattle.handover.specs.declared.calls.EndStep.{EndStep}
use Rattle.handover.specs.declared.calls.EndStep.TheVariants.{OfFeeder, OfDrain}

-- which word of the table it is
abbrev pub index_of : Word → ℕ
index_of Turn = 0
index_of Closed = 1
index_of Ended = 2

-- a load answers the word's number; of a store nothing is asked
abbrev pub Finds : List ℕ → WordStep → Type 0
Finds words (Load w n) = slice_index words (index_of w) ≡ n
Finds words (Store w n) = Unit {0}
Finds words (Give given) = Unit {0}

-- the words after a step
abbrev pub behind : List ℕ → WordStep → List ℕ
behind words (Load w n) = words
behind words (Store w n) = slice_set words (index_of w) n
behind words (Give given) = slice_set words (index_of Turn) 1

abbrev pub step_of : EndStep → WordStep
step_of (OfFeeder e) = e
step_of (OfDrain e) = e

-- the words after these steps
abbrev pub words_from : List ℕ → List EndStep → List ℕ
words_from words [] = words
words_from words (m ∷ ms) = words_from (behind words (step_of m)) ms

-- each load of these steps answers the number of its word
abbrev pub IsFreshFrom : List ℕ → List EndStep → Type 0
IsFreshFrom words [] = Unit {0}
IsFreshFrom words (m ∷ ms) = Finds words (step_of m) × IsFreshFrom (behind words (step_of m)) ms

abbrev pub zeros : List ℕ
zeros = 0 ∷ 0 ∷ 0 ∷ []

-- Each load answers what the last store to its word left, and 0 where there is none.
abbrev pub IsFresh : List EndStep → Type 0
IsFresh order = IsFreshFrom zeros order

abbrev pub words_after : List EndStep → List ℕ
words_after order = words_from zeros order

-- a store to this word, and whether some steps have one
abbrev pub is_store_to : Word → WordStep → Bool
is_store_to Turn (Store Turn n) = true
is_store_to Turn (Give given) = true
is_store_to Closed (Store Closed n) = true
is_store_to Ended (Store Ended n) = true
is_store_to w e = false

abbrev pub store_to : Word → List WordStep → Bool
store_to w [] = false
store_to w (e ∷ es) = is_store_to w e || store_to w es

-- the feeder's steps in an order, and the drain's
abbrev pub of_feeder : List EndStep → List WordStep
of_feeder [] = []
of_feeder (OfFeeder e ∷ ms) = e ∷ of_feeder ms
of_feeder (OfDrain e ∷ ms) = of_feeder ms

abbrev pub of_drain : List EndStep → List WordStep
of_drain [] = []
of_drain (OfFeeder e ∷ ms) = of_drain ms
of_drain (OfDrain e ∷ ms) = e ∷ of_drain ms

-- the messages that were handed over last, where these were before the step
abbrev pub given_by : EndStep → List Message → List Message
given_by (OfFeeder (Load w n)) given = given
given_by (OfFeeder (Store w n)) given = given
given_by (OfFeeder (Give now)) given = now
given_by (OfDrain e) given = given

abbrev pub given_from : List Message → List EndStep → List Message
given_from given [] = given
given_from given (m ∷ ms) = given_from (given_by m given) ms

-- what the feeder's last store of 1 to `turn` handed over, of these steps
abbrev pub last_given : List EndStep → List Message
last_given seen = given_from [] seen

-- What an end has seen goes on from what it had seen, by steps of both ends; each load in it is fresh; and the end's own steps
-- in it (mine) are all that it made.
pub record SightGoesOn (mine : List EndStep → List WordStep) (old new : List EndStep) (steps : List WordStep) : Type 0 where
  pub earlier : IsPrefix old new
  pub fresh : IsFresh new
  pub own : mine new ≡ steps

-- One order of all steps of both ends, in which each load is fresh: one of them has seen it all, and the other a beginning of it.
pub record HasOneOrder (feeder_seen drain_seen : List EndStep) (feeder_steps drain_steps : List WordStep) : Type 0 where
  pub order : List EndStep
  pub fresh : IsFresh order
  pub feeder : of_feeder order ≡ feeder_steps
  pub drain : of_drain order ≡ drain_steps
  pub feeder_saw : IsPrefix feeder_seen order
  pub drain_saw : IsPrefix drain_seen order
  pub latest : (order ≡ feeder_seen) ⊎ (order ≡ drain_seen)
