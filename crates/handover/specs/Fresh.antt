-- What a step may tell, whatever private code says of it: the rule holds before the step and after it.
use Rattle.std.specs.Prelude.{◌≡◌, ℕ, false, List, [], ◌∷◌, ◌++◌, slice_index}
use mathlib.Core.List.{IsPrefix}
use Rattle.atomic_table.specs.Table.{State}
use Rattle.listener.specs.Buffers.{Filled}
use Rattle.handover.specs.declared.calls.Word.{Word}
use Rattle.handover.specs.declared.calls.Word.TheVariants.{Turn, Closed, Ended}
use Rattle.handover.specs.declared.calls.EndStep.{EndStep}
use Rattle.handover.specs.declared.calls.WordStep.{WordStep}
use Rattle.handover.specs.declared.calls.WordStep.TheVariants.{Load, Store}
use Rattle.handover.specs.declared.view.Role.TheVariants.{Feeds}
use Rattle.handover.specs.declared.view.Profile.{Profile}
use Rattle.handover.specs.declared.view.Sight.{Sight}
use Rattle.handover.specs.Orders.{index_of, Finds, behind, store_to, of_feeder, HasOneOrder}
use Rattle.handover.specs.Rule.{KeepsRule}

abbrev pub Pair : Type 0
Pair = State Filled Sight

abbrev pub word_number : Word → Pair → ℕ
word_number w s = slice_index s.words (index_of w)

-- the rule holds, and the seats are the feeder's and the drain's
pub record HasEnds (p : Profile) (s : Pair) (feeder drain : Sight) : Type 0 where
  pub rule : KeepsRule p s
  pub seats : s.views ≡ feeder ∷ drain ∷ []
  pub role : feeder.view.role ≡ Feeds

-- A step of the feeder from s to t: its list has one entry more, and it has forgotten nothing.
pub record FeederTells (p : Profile) (s t : Pair) (e : WordStep) : Type 0 where
  pub old : Sight
  pub new : Sight
  pub drain : Sight
  pub before : HasEnds p s old drain
  pub after : HasEnds p t new drain
  pub saw : IsPrefix old.feeder_saw new.feeder_saw
  pub steps : new.view.feed_steps ≡ old.view.feed_steps ++ e ∷ []

-- the same of the drain
pub record DrainTells (p : Profile) (s t : Pair) (e : WordStep) : Type 0 where
  pub feeder : Sight
  pub old : Sight
  pub new : Sight
  pub before : HasEnds p s feeder old
  pub after : HasEnds p t feeder new
  pub saw : IsPrefix old.drain_saw new.drain_saw
  pub steps : new.view.take_steps ≡ old.view.take_steps ++ e ∷ []

-- A load that is told answered the number that its word had at this very step, and changed nothing; a store that is told was made.
abbrev pub FeederStepsAreFresh : Type 0
FeederStepsAreFresh = (p : Profile) (s t : Pair) (e : WordStep) → FeederTells p s t e → Finds s.words e × (t.words ≡ behind s.words e)

abbrev pub DrainStepsAreFresh : Type 0
DrainStepsAreFresh = (p : Profile) (s t : Pair) (e : WordStep) → DrainTells p s t e → Finds s.words e × (t.words ≡ behind s.words e)

-- Where neither list grew, no word has changed. So a call may look at a word without an entry, or store what is there, and no more.
abbrev pub SilentStepsChangeNothing : Type 0
SilentStepsChangeNothing =
    (p : Profile) (s t : Pair) (f g d e : Sight) → HasEnds p s f d → HasEnds p t g e → IsPrefix f.feeder_saw g.feeder_saw → IsPrefix d.drain_saw e.drain_saw
    → g.view.feed_steps ≡ f.view.feed_steps → e.view.take_steps ≡ d.view.take_steps → t.words ≡ s.words

-- ---- Steps that nothing can tell

-- of a drain that answers Nothing for ever after the end: `ended` is 1, and a load of it that answered 0 is told
abbrev pub NoEndIsOverlooked : Type 0
NoEndIsOverlooked = (p : Profile) (s t : Pair) → word_number Ended s ≡ 1 → DrainTells p s t (Load Ended 0) → ⊥

-- of a drain that answers Nothing while the hold is full
abbrev pub NoHoldIsOverlooked : Type 0
NoHoldIsOverlooked = (p : Profile) (s t : Pair) → word_number Turn s ≡ 1 → DrainTells p s t (Load Turn 0) → ⊥

-- of a feeder that stores after the close
abbrev pub NoCloseIsOverlooked : Type 0
NoCloseIsOverlooked = (p : Profile) (s t : Pair) → word_number Closed s ≡ 1 → FeederTells p s t (Load Closed 0) → ⊥

-- of a feeder that drops without a look: the hold is empty, and a load of `turn` that answered 1 is told
abbrev pub NoHoldIsMadeUp : Type 0
NoHoldIsMadeUp = (p : Profile) (s t : Pair) → word_number Turn s ≡ 0 → FeederTells p s t (Load Turn 1) → ⊥

-- of an `end` and of a `close` that store nothing: the words are as they were, and a store is told
abbrev pub NoEndIsMadeUp : Type 0
NoEndIsMadeUp = (p : Profile) (s t : Pair) → word_number Ended s ≡ 0 → t.words ≡ s.words → FeederTells p s t (Store Ended 1) → ⊥

abbrev pub NoCloseIsMadeUp : Type 0
NoCloseIsMadeUp = (p : Profile) (s t : Pair) → word_number Closed s ≡ 0 → t.words ≡ s.words → DrainTells p s t (Store Closed 1) → ⊥

-- ---- What an end has seen can't foretell what the other one will do

-- What the feeder has seen when it has ended suits a drain that makes these steps: the two can be settled.
abbrev pub Suits : List EndStep → List WordStep → List WordStep → Type 0
Suits seen feeder_steps drain_steps = (drain_seen : List EndStep) × HasOneOrder seen drain_seen feeder_steps drain_steps

-- The feeder has ended, and the drain has made these steps. No one list of what the feeder has seen suits both a drain that closes
-- next and one whose next read finds 0 in `ended`, as each that answers Nothing, whatever that drain does then.
abbrev pub NoSightSuitsBoth : Type 0
NoSightSuitsBoth =
    (seen : List EndStep) (fed taken later : List WordStep) → of_feeder seen ≡ fed ++ Store Ended 1 ∷ [] → store_to Ended taken ≡ false
    → Suits seen (fed ++ Store Ended 1 ∷ []) (taken ++ Store Closed 1 ∷ []) → Suits seen (fed ++ Store Ended 1 ∷ []) (taken ++ Load Ended 0 ∷ later) → ⊥
