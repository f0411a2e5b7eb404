-- The same answers and reasons as members of a JSON object.
use Rattle.std.specs.Prelude.{ℕ, List, ◌++◌, codes}
use Rattle.std.specs.Fmt.{decimal}
use Rattle.listener.specs.declared.answer.Fed.{Fed}
use Rattle.listener.specs.declared.answer.Fed.TheVariants as fed
use Rattle.tap_steps.specs.declared.answer.Answer.{Answer}
use Rattle.tap_steps.specs.declared.answer.Answer.TheVariants.{Arrived, Flushed, Read, Closed}
use Rattle.tap_text.specs.declared.reasons.ListenerState.{ListenerState}
use Rattle.tap_text.specs.declared.reasons.FullHold.{FullHold}
use Rattle.tap_text.specs.declared.reasons.FlushEnd.{FlushEnd}
use Rattle.tap_text.specs.declared.reasons.FlushEnd.TheVariants as flush
use Rattle.tap_text.specs.declared.reasons.ReadEnd.{ReadEnd}
use Rattle.tap_text.specs.declared.reasons.ReadEnd.TheVariants as read
use Rattle.tap_text.specs.Reasons.{full_hold_of, flush_end, read_end}

-- `"stored":LOAD,"size":SIZE,"capacity":CAPACITY`
abbrev pub sum_members : ListenerState → ℕ → List ℕ
sum_members before size = codes "\"stored\":" ++ decimal before.load ++ codes ",\"size\":" ++ decimal size
    ++ codes ",\"capacity\":" ++ decimal before.capacity

-- `"hold_step":N,"hold_packets":P`
abbrev pub hold_members : FullHold → List ℕ
hold_members hold = codes "\"hold_step\":" ++ decimal hold.step ++ codes ",\"hold_packets\":" ++ decimal hold.packets

-- for an arrival, whose record takes this many bytes, or would take them
abbrev pub arrival_members : ListenerState → ℕ → Fed → List ℕ
arrival_members before size fed.Passed = codes "\"answer\":\"passed\""
arrival_members before size fed.Stored = codes "\"answer\":\"stored\"," ++ sum_members before size
arrival_members before size fed.Held = codes "\"answer\":\"held\"," ++ sum_members before size
arrival_members before size fed.Rotated = codes "\"answer\":\"rotated\"," ++ sum_members before size
arrival_members before size fed.Dropped = codes "\"answer\":\"dropped\"," ++ sum_members before size ++ codes ","
    ++ hold_members (full_hold_of before)
arrival_members before size fed.Closed = codes "\"answer\":\"closed\""

abbrev pub flush_members : FlushEnd → List ℕ
flush_members flush.Closed = codes "\"answer\":\"not flushed\",\"reason\":\"closed\""
flush_members (flush.NotRead hold) = codes "\"answer\":\"not flushed\",\"reason\":\"hold not read\"," ++ hold_members hold
flush_members flush.NothingStored = codes "\"answer\":\"not flushed\",\"reason\":\"nothing stored\""
flush_members (flush.Takes load) = codes "\"answer\":\"flushed\",\"stored\":" ++ decimal load

abbrev pub read_members : ReadEnd → List ℕ
read_members read.Closed = codes "\"answer\":\"nothing read\",\"reason\":\"closed\""
read_members read.NothingHeld = codes "\"answer\":\"nothing read\",\"reason\":\"nothing held\""
read_members (read.Takes hold) = codes "\"answer\":\"read\"," ++ hold_members hold

-- the step that was answered, the answer, and why it was given
abbrev pub reason_members : ListenerState → ℕ → Answer → List ℕ
reason_members before size (Arrived fed) = codes "\"action\":\"arrive\"," ++ arrival_members before size fed
reason_members before size (Flushed full) = codes "\"action\":\"flush\"," ++ flush_members (flush_end before)
reason_members before size (Read full) = codes "\"action\":\"read\"," ++ read_members (read_end before)
reason_members before size Closed = codes "\"action\":\"close\",\"answer\":\"closed\""
