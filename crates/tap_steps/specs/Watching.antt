-- The states that steps lead listeners to.
use Rattle.std.specs.Prelude.{◌≡◌, ℕ, ◌+◌, ◌<◌, ◌^◌, Bool, List, [], ◌∷◌, ◌++◌, Option, Some, None, map, zero, suc, option_map, if◌then◌else◌}
use Rattle.std.specs.List.{AllByRecursion}
use Rattle.listener.specs.declared.message.Message.{Message}
use Rattle.listener.specs.Listening.{Listening, listening, seen_by}
use Rattle.listener.specs.PlainList.{Request, Event, answer, next, batch_in}
use Rattle.listener.specs.PlainList as P
use Rattle.tap_steps.specs.declared.answer.Answered.{Answered}
use Rattle.tap_steps.specs.declared.playlist.PlacedPacket.{PlacedPacket}
use Rattle.tap_steps.specs.declared.report.Report.{Report}
use Rattle.tap_steps.specs.declared.step.Step.{Step}
use Rattle.tap_steps.specs.declared.step.Step.TheVariants.{Arrive, Flush, Read, Close}
use Rattle.tap_steps.specs.Answers.{answered}
use Rattle.tap_steps.specs.OwnSteps.{arrival_of}
use Rattle.tap_steps.specs.Reports.{read_in, held_in}

-- A listener, the batches that were read from it, and, where they are followed, its answers.
pub record Watch : Type 0 where
  pub listener : Listening
  pub batches : List (List Message)
  pub answers : Option (List Answered)

abbrev pub watch : Listening → List (List Message) → Option (List Answered) → Watch
watch l batches answers = record { listener = l; batches = batches; answers = answers }

-- answers with one more
abbrev pub with_answer : Answered → Option (List Answered) → Option (List Answered)
with_answer a answers = option_map (λ before. before ++ a ∷ []) answers

-- after an event of the listener's own
abbrev pub after : Event → Watch → Watch
after e w = watch (listening w.listener.program w.listener.snap w.listener.terms (next w.listener.list e))
    (w.batches ++ batch_in e) (with_answer (answered w.listener.list e) w.answers)

-- after a step of the listener's own
unfoldable pub stepped : Request → Watch → Watch
stepped r w = after (answer w.listener.terms w.listener.list r) w

-- after an arrival
abbrev pub arrived_at : PlacedPacket → Watch → Watch
arrived_at p w = stepped (P.Arrive (seen_by w.listener (arrival_of p))) w

-- after a step of one listener
abbrev pub one_stepped : ℕ → Request → List Watch → List Watch
one_stepped l r [] = []
one_stepped zero r (w ∷ ws) = stepped r w ∷ ws
one_stepped (suc l) r (w ∷ ws) = w ∷ one_stepped l r ws

-- after all steps
abbrev pub played : List Step → List PlacedPacket → List Watch → List Watch
played [] playlist ws = ws
played (Arrive ∷ steps) [] ws = played steps [] ws
played (Arrive ∷ steps) (p ∷ playlist) ws = played steps playlist (map (arrived_at p) ws)
played (Flush l ∷ steps) playlist ws = played steps playlist (one_stepped l P.Flush ws)
played (Read l ∷ steps) playlist ws = played steps playlist (one_stepped l P.Read ws)
played (Close l ∷ steps) playlist ws = played steps playlist (one_stepped l P.Close ws)

-- after steps of the listener's own
abbrev pub all_stepped : List Request → Watch → Watch
all_stepped [] w = w
all_stepped (r ∷ rs) w = all_stepped rs (stepped r w)

-- no count can pass 2^64 - 1 while this many arrivals are left
abbrev pub CountsFit : ℕ → List Watch → Type 0
CountsFit left [] = Unit {0}
CountsFit left (w ∷ ws) = (w.listener.list.received + left < 2 ^ 64) × CountsFit left ws

-- a report says what a listener got
pub record Tells (w : Watch) (report : Report) : Type 0 where
  pub read : read_in report ≡ w.batches
  pub held : held_in report ≡ w.listener.list.pending
  pub received : report.received ≡ w.listener.list.received
  pub matched : report.matched ≡ w.listener.list.matched
  pub dropped : report.dropped ≡ w.listener.list.dropped

-- these are the listener's answers, where they were followed
abbrev pub IsFollowed : Watch → List Answered → Type 0
IsFollowed w answers = (followed : List Answered) → w.answers ≡ Some followed → answers ≡ followed

-- the answers before the first step: none, or none that are followed
abbrev pub no_answers : Bool → Option (List Answered)
no_answers traced = if traced then Some [] else None

-- each packet's data are bytes
abbrev pub AllPackets : List PlacedPacket → Type 0
AllPackets [] = Unit {0}
AllPackets (p ∷ ps) = AllByRecursion (λ byte. byte < 256) p.packet.bytes × AllPackets ps
