-- What holds of the definitions, whatever the code does.
use Rattle.std.specs.Prelude.{◌≡◌, ℕ, true, false, List, [], ◌∷◌, ◌++◌, Some, None}
use mathlib.Core.Option.{some}
use Rattle.atomic_table.specs.Table.{Allows, Splits, Joins}
use Rattle.listener.specs.declared.message.Message.{Message}
use Rattle.listener.specs.Buffers.{filled}
use Rattle.listener.specs.PlainList.{Terms, empty, run, stored, Legal, requests}
use Rattle.listener.specs.Laws.{joined}
use Rattle.listener.specs.LookingBack.{kept}
use Rattle.handover.specs.declared.calls.Feed.{Feed}
use Rattle.handover.specs.declared.calls.Take.{Take}
use Rattle.handover.specs.declared.view.Role.TheVariants.{Whole, Feeds, Drains, Joined}
use Rattle.handover.specs.declared.view.Profile.{Profile}
use Rattle.handover.specs.declared.view.Sight.{Sight}
use Rattle.handover.specs.History.{Happening, LegalHistory, events, feeds_in, takes_in, merge, CloseIsPlaced, batches_of, finds, kind, finds_closed}
use Rattle.handover.specs.Own.{own, store_of, received_in, matched_in, dropped_in}
use Rattle.handover.specs.Allowed.{AllFit, IsQuiet, Busy, Loud, handed}
use Rattle.handover.specs.Orders.{last_given}
use Rattle.handover.specs.Settling.{stored_in, undropped_in}
use Rattle.handover.specs.Rule.{last, terms_of, KeepsRule, first, for_feeder, for_drain, joint, witness, spent, IsLegalWithReads, Sitting, known, FeederSees, DrainSees, saw_closed, saw_turn, set_turn, set_ended, looked_ended, looked_turn, cleared, set_closed}

-- Each call of both lists stands in the merged list once, in its order, and the close is in its place.
pub record HasBoth (fs : List Feed) (ts : List Take) : Type 0 where
  pub feeds : feeds_in (merge fs ts) ≡ fs
  pub takes : takes_in (merge fs ts) ≡ ts
  pub close : CloseIsPlaced (merge fs ts)

abbrev pub MergesHaveBoth : Type 0
MergesHaveBoth = (fs : List Feed) (ts : List Take) → HasBoth fs ts

-- Where the merged list is legal: what was read and then what pends is what looking back keeps, and the counts are those of the
-- feeder's calls.
pub record IsSettled (t : Terms) (fs : List Feed) (ts : List Take) : Type 0 where
  pub whole : joined (batches_of ts) ++ (last fs ts).pending ≡ kept t (requests (events (merge fs ts)))
  pub all_received : (last fs ts).received ≡ received_in fs
  pub all_matched : (last fs ts).matched ≡ matched_in fs
  pub all_dropped : (last fs ts).dropped ≡ dropped_in fs

abbrev pub HistoriesAreSettled : Type 0
HistoriesAreSettled = (t : Terms) (fs : List Feed) (ts : List Take) → AllFit t.capacity fs → Legal t empty (events (merge fs ts)) → IsSettled t fs ts

-- In each legal history what was read and then what pends are the messages that were stored.
abbrev pub StoredAreReadOrPend : Type 0
StoredAreReadOrPend = (t : Terms) (fs : List Feed) (ts : List Take) (hs : List Happening) → LegalHistory t fs ts hs
    → joined (batches_of ts) ++ (run empty (events hs)).pending ≡ stored_in fs

-- In each legal history what looking back keeps are the messages that were stored, where each message is within the capacity.
abbrev pub KeptAreStored : Type 0
KeptAreStored = (t : Terms) (fs : List Feed) (ts : List Take) (hs : List Happening) → AllFit t.capacity fs → LegalHistory t fs ts hs
    → kept t (requests (events hs)) ≡ stored_in fs

-- In each legal history each accepted arrival that did not find the pair closed was stored or dropped: so what is missing of them is
-- what was dropped, and nothing else.
abbrev pub OnlyDroppedAreMissing : Type 0
OnlyDroppedAreMissing = (t : Terms) (fs : List Feed) (ts : List Take) (hs : List Happening) → LegalHistory t fs ts hs → stored_in fs ≡ undropped_in fs

-- Where the merged list is legal, the feeder's own calls are right by themselves, with one read directly before each that stores 1
-- to `turn` but the first, and the close directly before the first one that found it. Both runs have one store and the same counts.
pub record IsOwn (t : Terms) (fs : List Feed) (ts : List Take) : Type 0 where
  pub legal : Legal t empty (events (own fs))
  pub feeds : feeds_in (own fs) ≡ fs
  pub store : stored (run empty (events (own fs))) ≡ stored (last fs ts)
  pub all_received : (run empty (events (own fs))).received ≡ (last fs ts).received
  pub all_matched : (run empty (events (own fs))).matched ≡ (last fs ts).matched
  pub all_dropped : (run empty (events (own fs))).dropped ≡ (last fs ts).dropped

abbrev pub OwnRunsAreRight : Type 0
OwnRunsAreRight = (t : Terms) (fs : List Feed) (ts : List Take) → AllFit t.capacity fs → Legal t empty (events (merge fs ts)) → IsOwn t fs ts

-- ---- The rule of the table, and the steps that keep it

-- The table begins with the rule, the first seat is cut in two, the two ends' seats are joined, and what the joined one knows is
-- copied.
abbrev pub SeatsKeepTheRule : Type 0
SeatsKeepTheRule =
    ((p : Profile) → KeepsRule p (record { words = 0 ∷ 0 ∷ 0 ∷ []; homes = some (filled p.capacity []) ∷ []; views = first p ∷ [] }))
    × ((p : Profile) (id : ℕ) (v : Sight) → v.view.role ≡ Whole → Splits (KeepsRule p) id v (for_feeder v) (for_drain v))
    × ((p : Profile) (id : ℕ) (v : Sight) (other : ℕ) (w : Sight) → v.view.role ≡ Feeds → w.view.role ≡ Drains → Joins (KeepsRule p) id v other w (joint v w) spent)
    × ((p : Profile) (id : ℕ) (v : Sight) → v.view.role ≡ Joined → Splits (KeepsRule p) id v v (witness v))

-- The feeder's load of `closed` ends a call that depends only on the store where the pair is open, and a call that found it closed
-- where it is not.
abbrev pub FeederLooksAtClosed : Type 0
FeederLooksAtClosed =
    (p : Profile) (slots id : ℕ) (me : Sitting) (gs : List Feed) (f : Feed) → me.0.view.role ≡ Feeds → me.0.view.rotating ≡ false → me.0.view.ended ≡ false
    → IsQuiet (terms_of me.0.view.profile) me.0.view.feeds gs → kind f ≡ finds_closed → AllFit me.0.view.profile.capacity (f ∷ [])
    → Allows (KeepsRule p) slots id me 1 (λ n. n) (λ r n. saw_closed gs f (known me) r (known n) × IsLegalWithReads n.0.view × FeederSees me.0 n.0)

-- The feeder's load of `turn` ends a call that found the hold full, or takes the empty buffer out of the slot.
abbrev pub FeederLooksAtTurn : Type 0
FeederLooksAtTurn =
    (p : Profile) (slots id : ℕ) (me : Sitting) (f : Feed) → me.0.view.role ≡ Feeds → me.0.view.rotating ≡ false → me.0.view.ended ≡ false → finds me.0.view.feeds ≡ false
    → Busy (terms_of me.0.view.profile) (store_of me.0.view.feeds) f → AllFit me.0.view.profile.capacity (f ∷ [])
    → Allows (KeepsRule p) slots id me 0 (λ n. n) (λ r n. saw_turn f (known me) r (known n) × IsLegalWithReads n.0.view × FeederSees me.0 n.0)

-- The feeder's store to `turn` brings home what the call hands over, and ends the call.
abbrev pub FeederGives : Type 0
FeederGives =
    (p : Profile) (slots id : ℕ) (me : Sitting) (f : Feed) → me.0.view.role ≡ Feeds → me.0.view.rotating ≡ true → me.0.view.ended ≡ false → finds me.0.view.feeds ≡ false
    → Loud (terms_of me.0.view.profile) (store_of me.0.view.feeds) f → AllFit me.0.view.profile.capacity (f ∷ [])
    → me.1 ≡ (0, filled me.0.view.profile.capacity (handed (store_of me.0.view.feeds) f)) ∷ []
    → Allows (KeepsRule p) slots id me 0 (λ _. 1) (λ _ n. set_turn f (known me) 1 (known n) × IsLegalWithReads n.0.view × FeederSees me.0 n.0)

abbrev pub FeederEnds : Type 0
FeederEnds = (p : Profile) (slots id : ℕ) (me : Sitting) → me.0.view.role ≡ Feeds → me.0.view.ended ≡ false
    → Allows (KeepsRule p) slots id me 2 (λ _. 1) (λ _ n. set_ended (known me) 1 (known n) × IsLegalWithReads n.0.view × FeederSees me.0 n.0)

abbrev pub DrainLooksAtEnded : Type 0
DrainLooksAtEnded = (p : Profile) (slots id : ℕ) (me : Sitting) → me.0.view.role ≡ Drains → Allows (KeepsRule p) slots id me 2 (λ n. n) (λ r n. looked_ended (known me) r (known n) × DrainSees me.0 n.0)

-- The drain's load of `turn` ends a read of an empty hold, or takes the hold out of the slot.
abbrev pub DrainLooksAtTurn : Type 0
DrainLooksAtTurn = (p : Profile) (slots id : ℕ) (me : Sitting) → me.0.view.role ≡ Drains → me.0.view.closed ≡ false → me.0.view.taking ≡ None
    → Allows (KeepsRule p) slots id me 0 (λ n. n) (λ r n. looked_turn (known me) r (known n) × DrainSees me.0 n.0)

-- The drain's store to `turn` brings an empty buffer home, and ends the read of what was handed over last.
abbrev pub DrainClears : Type 0
DrainClears = (p : Profile) (slots id : ℕ) (me : Sitting) (batch : List Message) → me.0.view.role ≡ Drains → me.0.view.closed ≡ false → me.0.view.taking ≡ Some batch
    → me.1 ≡ (0, filled me.0.view.profile.capacity []) ∷ [] → Allows (KeepsRule p) slots id me 0 (λ _. 0) (λ _ n. cleared (last_given n.0.drain_saw) (known me) 0 (known n) × DrainSees me.0 n.0)

abbrev pub DrainCloses : Type 0
DrainCloses = (p : Profile) (slots id : ℕ) (me : Sitting) → me.0.view.role ≡ Drains → Allows (KeepsRule p) slots id me 1 (λ _. 1) (λ _ n. set_closed (known me) 1 (known n) × DrainSees me.0 n.0)
