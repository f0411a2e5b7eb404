-- What holds of the two ends' seats between their calls. Only private contracts use these words.
use Rattle.std.specs.Prelude.{◌≡◌, ℕ, ◌≤◌, Bool, true, false, List, [], ◌∷◌, ◌++◌, length, None}
use Rattle.atomic_table.specs.Seated.{TableId}
use Rattle.savefile.specs.declared.record.TheConstants.{MAX_SNAP}
use Rattle.listener.specs.declared.message.Message.{Message}
use Rattle.listener.specs.Messages.{arrival, cut_to, size_of}
use Rattle.listener.specs.Buffers.{Filled, filled}
use Rattle.handover.specs.declared.calls.Feed.{Feed}
use Rattle.handover.specs.declared.calls.WordStep.{WordStep}
use Rattle.handover.specs.declared.stand.Accepted.{Accepted}
use Rattle.handover.specs.declared.stand.Stand.{Stand}
use Rattle.handover.specs.declared.view.Role.TheVariants.{Feeds, Drains}
use Rattle.handover.specs.History.{finds}
use Rattle.handover.specs.Own.{store_of}
use Rattle.handover.specs.Rule.{Sat, IsLegalWithReads, known, FeederSees}
use Rattle.handover.specs.Steps.{FlushAnswers, call_steps}

-- the feeder's seat and its store
pub record IsFeeder (m : Sat) (b : Filled) (over : Bool) : Type 0 where
  pub role : m.0.role ≡ Feeds
  pub calm : m.0.rotating ≡ false
  pub ended : m.0.ended ≡ over
  pub home : m.1 ≡ []
  pub store : b ≡ filled m.0.profile.capacity (store_of m.0.feeds)
  pub owned : IsLegalWithReads m.0

-- Between the feeder's load of `turn` that answered 0 and its store: the slot is its own, with this buffer.
pub record IsGiving (m : Sat) (b : Filled) : Type 0 where
  pub role : m.0.role ≡ Feeds
  pub busy : m.0.rotating ≡ true
  pub ended : m.0.ended ≡ false
  pub unclosed : finds m.0.feeds ≡ false
  pub slot : m.1 ≡ (0, b) ∷ []

-- The seat went on by one call and these steps, and this is the store after it.
pub record Went (m n : Sat) (b : Filled) (f : Feed) (es : List WordStep) : Type 0 where
  pub feeder : IsFeeder n b false
  pub profile : n.0.profile ≡ m.0.profile
  pub feeds : n.0.feeds ≡ m.0.feeds ++ f ∷ []
  pub steps : n.0.feed_steps ≡ m.0.feed_steps ++ es

-- ---- The feeder's seat with its store, and its calls

-- a stand of this pair, between two calls
pub record IsStand (link : TableId) (s : Stand) : Type 0 where
  pub pair : s.seat.table_id ≡ link
  pub feeder : IsFeeder (known s.seat.me) s.store false

-- A packet that the filter accepts is offered to a stand of this pair: what is kept of it, which is within the capacity.
pub record IsOffered (link : TableId) (s : Stand) (p : Accepted) (m : Message) : Type 0 where
  pub stand : IsStand link s
  pub message : m ≡ cut_to p.kept (arrival p.capture p.place p.packet.now)
  pub captured : p.kept ≤ length p.packet.now.bytes
  pub writable : p.kept ≤ MAX_SNAP
  pub small : size_of m ≤ s.seat.me.0.view.profile.capacity

-- The call f was made: the stand is of the same pair, its list of calls grew by f and its steps by those of f, and it has
-- forgotten nothing that it had seen.
pub record HasCalled (old new : Stand) (f : Feed) : Type 0 where
  pub pair : new.seat.table_id ≡ old.seat.table_id
  pub went : Went (known old.seat.me) (known new.seat.me) new.store f (call_steps old.seat.me.0.view.profile.mode old.store.messages f)
  pub order : FeederSees old.seat.me.0 new.seat.me.0

-- a flush was made that answered `full`
pub record HasFlushed (old new : Stand) (full : Bool) : Type 0 where
  pub call : Feed
  pub answer : FlushAnswers full call
  pub made : HasCalled old new call

-- the drain's seat
pub record IsDrain (m : Sat) (over : Bool) : Type 0 where
  pub role : m.0.role ≡ Drains
  pub calm : m.0.taking ≡ None
  pub closed : m.0.closed ≡ over
  pub home : m.1 ≡ []
