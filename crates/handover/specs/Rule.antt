-- The rule of the table, between any two steps.
use Rattle.std.specs.Prelude.{◌≡◌, ◌≢◌, ℕ, ◌<◌, Bool, true, false, List, [], ◌∷◌, ◌++◌, ◌⊎◌, Option, Some, None}
use mathlib.Core.Option.{some, none}
use mathlib.Core.Option as lean
use mathlib.Core.List.{IsPrefix}
use Rattle.atomic_table.specs.Table.{State, Me, rest}
use Rattle.listener.specs.declared.mode.Mode.{Mode}
use Rattle.listener.specs.declared.mode.Mode.TheVariants.{Buffered}
use Rattle.listener.specs.declared.message.Message.{Message}
use Rattle.listener.specs.Buffers.{Filled, filled}
use Rattle.listener.specs.PlainList.{Terms, terms, PlainList, empty, run, Legal}
use Rattle.listener.specs.Laws.{hold_of}
use Rattle.handover.specs.declared.calls.Feed.{Feed}
use Rattle.handover.specs.declared.calls.Take.{Take}
use Rattle.handover.specs.declared.calls.Take.TheVariants.{Full, Nothing, Ended}
use Rattle.handover.specs.declared.calls.Word.TheVariants as word
use Rattle.handover.specs.declared.calls.WordStep.{WordStep}
use Rattle.handover.specs.declared.calls.WordStep.TheVariants.{Load, Store, Give}
use Rattle.handover.specs.declared.view.Role.TheVariants.{Whole, Feeds, Drains, Joined, Spent}
use Rattle.handover.specs.declared.view.Profile.{Profile}
use Rattle.handover.specs.declared.view.View.{View}
use Rattle.handover.specs.declared.view.Sight.{Sight}
use Rattle.handover.specs.declared.calls.EndStep.{EndStep}
use Rattle.handover.specs.History.{events, merge, turns_of, finds, ended_in, EndedIsLast}
use Rattle.handover.specs.Allowed.{AllFit, handed}
use Rattle.handover.specs.Own.{store_of}
use Rattle.handover.specs.Tidy.{Tidy}
use Rattle.handover.specs.Orders.{IsFresh, words_after, store_to, of_feeder, of_drain, last_given, SightGoesOn}

abbrev pub profile_of : ℕ → Mode → Profile
profile_of capacity mode = record { capacity = capacity; mode = mode }

abbrev pub terms_of : Profile → Terms
terms_of p = terms p.capacity p.mode

-- what the slot has while it is at home
abbrev pub Home : Type 0
Home = lean.Option Filled

-- the number of a word
abbrev pub bit : Bool → ℕ
bit true = 1
bit false = 0

abbrev pub IsHeld : Bool → ℕ → Type 0
IsHeld true in_hold = 0 < in_hold
IsHeld false in_hold = in_hold ≡ 0

-- Where the buffer is, by `turn`: at home, empty or with what is held, or with the one seat that exchanges it.
abbrev pub BufferFollowsTurn : ℕ → Bool → Bool → Option (List Message) → Home → List Message → Type 0
BufferFollowsTurn capacity false false None home in_hold = home ≡ some (filled capacity [])
BufferFollowsTurn capacity false true None home in_hold = home ≡ none
BufferFollowsTurn capacity true false None home in_hold = home ≡ some (filled capacity in_hold)
BufferFollowsTurn capacity true false (Some batch) home in_hold = (home ≡ none) × (batch ≡ in_hold)
BufferFollowsTurn capacity false rotating (Some batch) home in_hold = ⊥
BufferFollowsTurn capacity true true taking home in_hold = ⊥

-- the plain list after both lists of calls
abbrev pub last : List Feed → List Take → PlainList
last fs ts = run empty (events (merge fs ts))

-- what holds of the two views, of `turn`, of the slot, and of what was handed over last
pub record Facts (t : Terms) (full : Bool) (home : Home) (given : List Message) (f d : View) : Type 0 where
  pub fits : AllFit t.capacity f.feeds
  pub legal : Legal t empty (events (merge f.feeds d.takes))
  pub is_open : (last f.feeds d.takes).closed ≡ finds f.feeds
  pub closer : d.closed ≡ false → finds f.feeds ≡ false
  pub in_hold : IsHeld full (last f.feeds d.takes).in_hold
  pub tidy : Tidy (turns_of d.takes) f.feeds full
  pub late : EndedIsLast (merge f.feeds d.takes)
  pub ender : f.ended ≡ false → ended_in d.takes ≡ false
  pub unclosed : ended_in d.takes ≡ true → finds f.feeds ≡ false
  pub seen : d.sees_end ≡ true → f.ended ≡ true
  pub place : BufferFollowsTurn t.capacity full f.rotating d.taking home (hold_of (last f.feeds d.takes))
  pub held_given : full ≡ true → hold_of (last f.feeds d.takes) ≡ given

-- seats that make no step any more
abbrev pub AllSpent : List Sight → Type 0
AllSpent [] = Unit {0}
AllSpent (s ∷ ss) = (s.view.role ≡ Spent) × AllSpent ss

-- the seats: the one that is whole, the two, or the joined one beside spent ones
pub data Seats (feeder drain : Sight) : List Sight → Type 0 where
  whole : feeder ≡ drain → feeder.view.role ≡ Whole → Seats feeder drain (feeder ∷ [])
  apart : feeder.view.role ≡ Feeds → drain.view.role ≡ Drains → Seats feeder drain (feeder ∷ drain ∷ [])
  joined : (others : List Sight) → feeder ≡ drain → feeder.view.role ≡ Joined → AllSpent others → Seats feeder drain (feeder ∷ others)

-- All steps that were made, in their order: each load is fresh, and the words are what the stores left. It has the steps of both
-- ends and no others; one of them has seen it all, and the other a beginning of it.
pub record IsOrder (order : List EndStep) (numbers : List ℕ) (f d : Sight) : Type 0 where
  pub fresh : IsFresh order
  pub words : numbers ≡ words_after order
  pub feeder : of_feeder order ≡ f.view.feed_steps
  pub drain : of_drain order ≡ d.view.take_steps
  pub feeder_saw : IsPrefix f.feeder_saw order
  pub drain_saw : IsPrefix d.drain_saw order
  pub latest : (order ≡ f.feeder_saw) ⊎ (order ≡ d.drain_saw)

-- The rule: the merged list is a legal history whose hold is full exactly where `turn` is 1, and then has what was handed over last;
-- the buffer is at home but where one seat has it; `closed` and `ended` are 1 exactly where the drain and the feeder have made that store; and all steps have one
-- order, in which each load answered what its word was, and which left the words as they are.
pub record KeepsRule (p : Profile) (s : State Filled Sight) : Type 0 where
  pub full : Bool
  pub home : Home
  pub feeder : Sight
  pub drain : Sight
  pub order : List EndStep
  pub words : s.words ≡ bit full ∷ bit (store_to word.Closed drain.view.take_steps) ∷ bit (store_to word.Ended feeder.view.feed_steps) ∷ []
  pub closed : drain.view.closed ≡ store_to word.Closed drain.view.take_steps
  pub ended : feeder.view.ended ≡ store_to word.Ended feeder.view.feed_steps
  pub homes : s.homes ≡ home ∷ []
  pub seats : Seats feeder drain s.views
  pub feeder_profile : feeder.view.profile ≡ p
  pub drain_profile : drain.view.profile ≡ p
  pub facts : Facts (terms_of p) full home (last_given order) feeder.view drain.view
  pub steps : IsOrder order s.words feeder drain

-- ---- Views

abbrev pub first : Profile → Sight
first p = record {
  view = record { role = Whole; profile = p; feeds = []; feed_steps = []; rotating = false; ended = false; takes = []; take_steps = []; taking = None; sees_end = false; closed = false };
  feeder_saw = [];
  drain_saw = [];
}

abbrev pub for_feeder : Sight → Sight
for_feeder s = record s { view = record (s.view) { role = Feeds } }

abbrev pub for_drain : Sight → Sight
for_drain s = record s { view = record (s.view) { role = Drains } }

-- the feeder's view with what the drain's knows
abbrev pub both_views : View → View → View
both_views v w = record v { role = Joined; takes = w.takes; take_steps = w.take_steps; taking = w.taking; sees_end = w.sees_end; closed = w.closed }

abbrev pub joint : Sight → Sight → Sight
joint s t = record { view = both_views s.view t.view; feeder_saw = s.feeder_saw; drain_saw = t.drain_saw }

-- what the joined seat knows, in a spent one
abbrev pub witness : Sight → Sight
witness s = record s { view = record (s.view) { role = Spent } }

abbrev pub spent : Sight
spent = let s = first (record { capacity = 0; mode = Buffered }) in record s { view = record (s.view) { role = Spent } }

-- after a step of the feeder, with the calls that it ends
abbrev pub with_feeds : View → List Feed → WordStep → Bool → View
with_feeds v fs e rotating = record v { feeds = v.feeds ++ fs; feed_steps = v.feed_steps ++ e ∷ []; rotating = rotating }

-- after a step of the drain, with the reads that it ends
abbrev pub with_takes : View → List Take → WordStep → Option (List Message) → View
with_takes v ts e taking = record v { takes = v.takes ++ ts; take_steps = v.take_steps ++ e ∷ []; taking = taking }

-- after the feeder's store to `ended`
abbrev pub ended_by : View → View
ended_by v = record v { feed_steps = v.feed_steps ++ Store word.Ended 1 ∷ []; ended = true }

-- after the drain's load of `ended`
abbrev pub saw_end : View → Bool → View
saw_end v seen = record v { take_steps = v.take_steps ++ Load word.Ended (bit seen) ∷ []; sees_end = seen }

-- after the drain's store to `closed`
abbrev pub closed_by : View → View
closed_by v = record v { take_steps = v.take_steps ++ Store word.Closed 1 ∷ []; closed = true }

-- a read of an empty hold
abbrev pub idle : Bool → Take
idle true = Ended
idle false = Nothing

-- with some reads the feeder's calls make a legal history
pub record AreLegalWithReads (t : Terms) (fs : List Feed) : Type 0 where
  pub fits : AllFit t.capacity fs
  pub takes : List Take
  pub legal : Legal t empty (events (merge fs takes))

abbrev pub IsLegalWithReads : View → Type 0
IsLegalWithReads v = AreLegalWithReads (terms_of v.profile) v.feeds

abbrev pub Sat : Type 0
Sat = Me Filled View

-- a seat of the table, and of this what it knows of its own calls
abbrev pub Sitting : Type 0
Sitting = Me Filled Sight

abbrev pub known : Sitting → Sat
known me = (me.0.view, me.1)

-- Each step of an end: it has seen more, each load that it has seen is fresh, and its own steps among them are all that it made.
abbrev pub FeederSees : Sight → Sight → Type 0
FeederSees old new = SightGoesOn of_feeder old.feeder_saw new.feeder_saw new.view.feed_steps

abbrev pub DrainSees : Sight → Sight → Type 0
DrainSees old new = SightGoesOn of_drain old.drain_saw new.drain_saw new.view.take_steps

-- ---- What each step tells: of the seat before, the number found and the seat after

-- The feeder's load of `closed` ends the calls fs where the pair is open, and the call f where it is closed.
abbrev pub saw_closed : List Feed → Feed → Sat → ℕ → Sat → Type 0
saw_closed fs f m r n =
    (r ≡ 0 → (n ≡ (with_feeds m.0 fs (Load word.Closed 0) false, m.1)) × (finds m.0.feeds ≡ false))
    × (r ≢ 0 → (r ≡ 1) × (n ≡ (with_feeds m.0 (f ∷ []) (Load word.Closed 1) false, m.1)))

-- The feeder's load of `turn` takes the empty buffer out of the slot, or ends the call f.
abbrev pub saw_turn : Feed → Sat → ℕ → Sat → Type 0
saw_turn f m r n =
    (r ≡ 0 → n ≡ (with_feeds m.0 [] (Load word.Turn 0) true, (0, filled m.0.profile.capacity []) ∷ m.1))
    × (r ≢ 0 → (r ≡ 1) × (n ≡ (with_feeds m.0 (f ∷ []) (Load word.Turn 1) false, m.1)))

-- The feeder's store to `turn` hands over what the call f makes the hold, and ends it.
abbrev pub set_turn : Feed → Sat → ℕ → Sat → Type 0
set_turn f m r n = n ≡ (with_feeds m.0 (f ∷ []) (Give (handed (store_of m.0.feeds) f)) false, rest m.1)

abbrev pub set_ended : Sat → ℕ → Sat → Type 0
set_ended m r n = n ≡ (ended_by m.0, m.1)

abbrev pub looked_ended : Sat → ℕ → Sat → Type 0
looked_ended m r n = (r ≡ 0 → n ≡ (saw_end m.0 false, m.1)) × (r ≢ 0 → (r ≡ 1) × (n ≡ (saw_end m.0 true, m.1)))

-- The drain's load of `turn` takes the hold out of the slot, or ends the read.
abbrev pub looked_turn : Sat → ℕ → Sat → Type 0
looked_turn m r n =
    (r ≡ 0 → n ≡ (with_takes m.0 (idle m.0.sees_end ∷ []) (Load word.Turn 0) None, m.1))
    × (r ≢ 0 → (r ≡ 1) × ((batch : List Message) × (n ≡ (with_takes m.0 [] (Load word.Turn 1) (Some batch), (0, filled m.0.profile.capacity batch) ∷ m.1))))

-- The drain's store to `turn` ends the read of a batch: what was handed over last.
abbrev pub cleared : List Message → Sat → ℕ → Sat → Type 0
cleared given m r n = (batch : List Message) → m.0.taking ≡ Some batch → (batch ≡ given) × (n ≡ (with_takes m.0 (Full batch ∷ []) (Store word.Turn 0) None, rest m.1))

abbrev pub set_closed : Sat → ℕ → Sat → Type 0
set_closed m r n = n ≡ (closed_by m.0, m.1)
