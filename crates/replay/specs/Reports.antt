-- What is promised of a task, of its feeder's and its drain's lists of calls.
use Rattle.std.specs.Prelude.{◌≡◌, ◌≢◌, ℕ, ◌+◌, ◌^◌, ◌<◌, ◌≤◌, ◌⊎◌, false, List, [], ◌∷◌, length, map, take, drop, Option}
use Rattle.std.specs.Io.KnownBytes.{Appends}
use Rattle.listener.specs.declared.message.Message.{Message}
use Rattle.savefile.specs.Savefile.{packet, encoded}
use Rattle.savefile.specs.declared.header.Order.{Order}
use Rattle.savefile.specs.declared.header.Unit.{Unit as TimeUnit}
use Rattle.savefile.specs.declared.packet.Packet.{Packet}
use Rattle.savefile.specs.Writer.{IsBeginning}
use Rattle.handover.specs.History.{LegalHistory, finds, merge}
use Rattle.handover.specs.Own.{received_in, matched_in, dropped_in}
use Rattle.handover.specs.Rule.{last, profile_of, terms_of}
use Rattle.handover.specs.Settling.{kept_of_history}
use Rattle.handover.specs.declared.calls.Feed.{Feed}
use Rattle.handover.specs.declared.calls.Take.{Take}
use Rattle.replay_types.specs.declared.report.ListenerReport.{ListenerReport}
use Rattle.replay_types.specs.declared.report.TaskEnd.TheVariants.{Clean, Write, Unfinished}
use Rattle.replay_types.specs.declared.task.Task.{Task}

-- the messages that the listener kept
abbrev pub kept_for : {W : Type 0} → Task W → List Feed → List Take → List Message
kept_for task feeds takes = kept_of_history (profile_of task.capacity task.mode) feeds takes

-- a message as a packet of a savefile
abbrev pub packet_of : Message → Packet
packet_of m = packet m.sec m.nanos m.len m.bytes

-- the text of what it kept
abbrev pub text_for : {W : Type 0} → Task W → List Feed → List Take → List ℕ
text_for task feeds takes = encoded task.order task.unit task.snap (map packet_of (kept_for task feeds takes))

-- The record of the first of these messages would take a savefile past 2^64 - 1 bytes.
abbrev pub IsFull : ℕ → List Message → Type 0
IsFull sent [] = ⊥
IsFull sent (m ∷ messages) = 2 ^ 64 ≤ sent + 16 + length m.bytes

-- A beginning of the written text of these packets: the first n of them are whole in it, and the next is not.
pub record BreaksBehind (order : Order) (unit : TimeUnit) (snap : ℕ) (packets : List Packet) (n : ℕ) (text : List ℕ) : Type 0 where
  pub begins : IsBeginning text (encoded order unit snap packets)
  pub some : n ≤ length packets
  pub whole : (n ≡ 0) ⊎ (length (encoded order unit snap (take n packets)) ≤ length text)
  pub short : length text < length (encoded order unit snap (take (n + 1) packets))

-- n packets were handed to a writer, and this is their text; or it broke off after the first n of them.
abbrev pub WroteSoFar : Order → TimeUnit → ℕ → List Packet → ℕ → List ℕ → Type 0
WroteSoFar order unit snap packets n text =
    ((n ≡ length packets) × (text ≡ encoded order unit snap packets)) ⊎ BreaksBehind order unit snap packets n text

-- The two lists make a legal history, and the counts are its counts. The sink took exactly `sent` bytes, in which `written`
-- packets are whole: where the end is Clean, the text of all that was kept, and no write of the sink failed, since a flush that
-- fails is not counted; after Write a beginning of it, and a write failed or the next packet's record would make the text too long;
-- after Unfinished the text of some packets, or a beginning of it.
pub record IsReported {W : Type 0} (taken : W → Option (List ℕ)) (failures : W → ℕ) (task : Task W) (feeds : List Feed) (takes : List Take)
    (r : ListenerReport W) : Type 0 where
  pub history : LegalHistory (terms_of (profile_of task.capacity task.mode)) feeds takes (merge feeds takes)
  pub all_received : (r.received ≡ received_in feeds) × (r.received ≡ (last feeds takes).received)
  pub all_matched : (r.matched ≡ matched_in feeds) × (r.matched ≡ (last feeds takes).matched)
  pub all_dropped : (r.dropped ≡ dropped_in feeds) × (r.dropped ≡ (last feeds takes).dropped)
  pub balance : r.matched ≡ length (kept_for task feeds takes) + r.dropped
  pub text : List ℕ
  pub took : Appends (taken task.sink) (taken r.sink) text
  pub all_sent : r.sent ≡ length text
  pub clean : r.end ≡ Clean → (finds feeds ≡ false) × (r.written ≡ length (kept_for task feeds takes)) × (text ≡ text_for task feeds takes)
      × (failures r.sink ≡ failures task.sink)
  pub broke : (n : ℕ) → r.end ≡ Write n → (n ≡ r.sent)
      × BreaksBehind task.order task.unit task.snap (map packet_of (kept_for task feeds takes)) r.written text
      × ((failures r.sink ≢ failures task.sink) ⊎ IsFull r.sent (drop r.written (kept_for task feeds takes)))
  pub unfinished : r.end ≡ Unfinished → (packets : List Packet) × WroteSoFar task.order task.unit task.snap packets r.written text
