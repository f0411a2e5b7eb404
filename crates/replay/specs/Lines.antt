-- What the feeders of an interface were asked so far.
use Rattle.std.specs.Prelude.{◌≡◌, ℕ, List, [], ◌++◌, length, map}
use Rattle.atomic_table.specs.Seated.{TableId}
use Rattle.listener.specs.Messages.{Arrival}
use Rattle.listener.specs.PlainList.{Request}
use Rattle.handover.specs.Asks.{asks}
use Rattle.handover.specs.declared.view.Profile.{Profile}
use Rattle.replay.specs.Playing.{Asking, asked, asked_at}
use Rattle.replay.specs.Rings.{Ring, ring_of}
use Rattle.replay.specs.declared.states.feeder.EndedFeeder.{EndedFeeder}
use Rattle.replay.specs.declared.states.feeder.FeederSlot.{FeederSlot}
use Rattle.replay.specs.declared.replaying_thread.Player.{Player}

-- A feeder: its pair, its buffers and mode, what it is asked by, the ring that its rest goes into, and what it was asked.
pub record Line : Type 0 where
  pub pair : TableId
  pub profile : Profile
  pub asking : Asking
  pub ring : Ring
  pub asks : List Request

abbrev pub line_of : FeederSlot → Line
line_of i = record {
  pair = i.feeder.pair;
  profile = i.feeder.profile;
  asking = record { program = i.feeder.program; snap = i.feeder.snap; flush_every = i.flush_every };
  ring = ring_of i.rest_in.end;
  asks = asks i.feeder.feeds;
}

-- the pair that it is of
abbrev pub slot_pair : FeederSlot → TableId
slot_pair i = i.feeder.pair

-- nothing was asked of it yet
abbrev pub IsFresh : Line → Type 0
IsFresh l = l.asks ≡ []

abbrev pub with_asks : Line → List Request → Line
with_asks l rs = record { pair = l.pair; profile = l.profile; asking = l.asking; ring = l.ring; asks = rs }

-- the feeder after arrival n
abbrev pub fed_with : ℕ → Arrival → Line → Line
fed_with n a l = with_asks l (l.asks ++ asked_at l.asking n a)

-- the feeder after a playlist, before which nothing was asked
abbrev pub fed_all : List Arrival → Line → Line
fed_all playlist l = with_asks l (asked l.asking playlist)

-- A feeder that has ended: its pair, its buffers and mode, the ring that its rest went into, and what it was asked.
pub record EndedLine : Type 0 where
  pub pair : TableId
  pub profile : Profile
  pub ring : Ring
  pub asks : List Request

abbrev pub ended_of : EndedFeeder → EndedLine
ended_of e = record { pair = e.feed.pair; profile = e.feed.profile; ring = ring_of e.rest_in.end; asks = asks e.feed.feeds }

abbrev pub ended_line : Line → EndedLine
ended_line l = record { pair = l.pair; profile = l.profile; ring = l.ring; asks = l.asks }

abbrev pub ended_all : List Line → List EndedLine
ended_all ls = map ended_line ls

-- this playlist arrived at the feeders, which began as `starts`; each is beside its link
abbrev pub HasArrived : List Line → List Arrival → Player → Type 0
HasArrived starts playlist p =
    (p.arrived ≡ length playlist) × (map line_of p.slots.items ≡ map (fed_all playlist) starts) × (map slot_pair p.slots.items ≡ p.links.now)
