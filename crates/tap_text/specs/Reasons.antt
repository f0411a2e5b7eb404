-- Why a listener answered a step as it did, from how it stood before.
use Rattle.std.specs.Prelude.{ℕ, List, ◌++◌, ◌==◌, nat_lt, if◌then◌else◌, codes}
use Rattle.std.specs.Fmt.{decimal}
use Rattle.listener.specs.declared.answer.Fed.{Fed}
use Rattle.listener.specs.declared.answer.Fed.TheVariants as fed
use Rattle.tap_steps.specs.declared.answer.Answer.{Answer}
use Rattle.tap_steps.specs.declared.answer.Answered.{Answered}
use Rattle.tap_steps.specs.declared.answer.Answer.TheVariants.{Arrived, Flushed, Read, Closed}
use Rattle.tap_text.specs.declared.reasons.ListenerState.{ListenerState}
use Rattle.tap_text.specs.declared.reasons.FullHold.{FullHold}
use Rattle.tap_text.specs.declared.reasons.FlushEnd.{FlushEnd}
use Rattle.tap_text.specs.declared.reasons.FlushEnd.TheVariants as flush
use Rattle.tap_text.specs.declared.reasons.ReadEnd.{ReadEnd}
use Rattle.tap_text.specs.declared.reasons.ReadEnd.TheVariants as read

-- how a listener of this capacity stood before it answered, where its hold was filled last at this step
abbrev pub state_before : Answered → ℕ → ℕ → ListenerState
state_before answered held_since capacity =
    record { closed = answered.closed; load = answered.load; in_hold = answered.in_hold; held_since = held_since; capacity = capacity }

-- what stands in the hold
abbrev pub full_hold_of : ListenerState → FullHold
full_hold_of before = record { step = before.held_since; packets = before.in_hold }

-- `the hold of step N with P packets`
unfoldable pub hold_text : FullHold → List ℕ
hold_text hold = codes "the hold of step " ++ decimal hold.step ++ codes " with " ++ decimal hold.packets
    ++ (if hold.packets == 1 then codes " packet" else codes " packets")

-- `LOAD stored and MORE more`
abbrev pub sum_text : ℕ → ℕ → List ℕ
sum_text load more = decimal load ++ codes " stored and " ++ decimal more ++ codes " more"

-- for an arrival, whose record takes this many bytes, or would take them
abbrev pub arrival_text : ListenerState → ℕ → Fed → List ℕ
arrival_text before size fed.Passed = codes "Passed, the filter rejects it"
arrival_text before size fed.Stored = codes "Stored, " ++ sum_text before.load size ++ codes " are within " ++ decimal before.capacity
arrival_text before size fed.Held = codes "Held, " ++ sum_text before.load size ++ codes " are within " ++ decimal before.capacity
    ++ codes ", and the empty hold takes them at once"
arrival_text before size fed.Rotated = codes "Rotated, " ++ sum_text before.load size ++ codes " exceed " ++ decimal before.capacity
    ++ codes ", and the empty hold takes the " ++ decimal before.load
arrival_text before size fed.Dropped = codes "Dropped, " ++ sum_text before.load size ++ codes " exceed " ++ decimal before.capacity
    ++ codes "; " ++ hold_text (full_hold_of before) ++ codes " is not read"
arrival_text before size fed.Closed = codes "Closed"

-- how a flush ends: a closed listener and a hold that is not read come before an empty store
abbrev pub flush_end : ListenerState → FlushEnd
flush_end before =
    if before.closed then flush.Closed
    else if nat_lt 0 before.in_hold then flush.NotRead (full_hold_of before)
    else if before.load == 0 then flush.NothingStored
    else flush.Takes before.load

abbrev pub flush_text : FlushEnd → List ℕ
flush_text flush.Closed = codes "not flushed, closed"
flush_text (flush.NotRead hold) = codes "not flushed, " ++ hold_text hold ++ codes " is not read"
flush_text flush.NothingStored = codes "not flushed, nothing is stored"
flush_text (flush.Takes load) = codes "flushed, the empty hold takes the " ++ decimal load ++ codes " stored"

-- how a read ends: a closed listener comes before an empty hold
abbrev pub read_end : ListenerState → ReadEnd
read_end before =
    if before.closed then read.Closed
    else if before.in_hold == 0 then read.NothingHeld
    else read.Takes (full_hold_of before)

abbrev pub read_text : ReadEnd → List ℕ
read_text read.Closed = codes "nothing read, closed"
read_text read.NothingHeld = codes "nothing read, nothing is held"
read_text (read.Takes hold) = codes "read, it takes " ++ hold_text hold

-- the answer to a step, and why it was given
abbrev pub reason : ListenerState → ℕ → Answer → List ℕ
reason before size (Arrived fed) = arrival_text before size fed
reason before size (Flushed full) = flush_text (flush_end before)
reason before size (Read full) = read_text (read_end before)
reason before size Closed = codes "closed"
