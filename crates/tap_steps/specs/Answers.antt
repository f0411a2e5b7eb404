-- What listeners answer, step by step.
use Rattle.std.specs.Prelude.{◌≡◌, ℕ, List, [], ◌∷◌, Option, Some, None, true, false}
use Rattle.listener.specs.declared.message.Message.{Message}
use Rattle.listener.specs.Messages.{size_of}
use Rattle.listener.specs.PlainList.{Terms, PlainList, Event, Request, arrived, flushed, read, closed, load, next, empty, Legal, requests}
use Rattle.tap_steps.specs.declared.answer.Answer.{Answer}
use Rattle.tap_steps.specs.declared.answer.Answer.TheVariants.{Arrived, Flushed, Read, Closed}
use Rattle.tap_steps.specs.declared.answer.Answered.{Answered}

-- the answer of an event
abbrev pub answer_in : Event → Answer
answer_in (arrived m fed) = Arrived fed
answer_in (flushed full) = Flushed full
answer_in (read (Some batch)) = Read true
answer_in (read None) = Read false
answer_in closed = Closed

-- the bytes of the record of what a filter keeps; 0 where it keeps nothing
abbrev pub size_kept : Option Message → ℕ
size_kept (Some m) = size_of m
size_kept None = 0

-- the bytes of the record that an arrival takes, or would take if there were room
abbrev pub size_in : Event → ℕ
size_in (arrived kept fed) = size_kept kept
size_in other = 0

-- the answer of an event, with how the listener stood before it (whether it was closed, the load and the number of held messages),
-- and with the bytes of an arrival's record
abbrev pub answered : PlainList → Event → Answered
answered s e = record { closed = s.closed; load = load s; in_hold = s.in_hold; size = size_in e; answer = answer_in e }

-- the same of each event, from a state on
abbrev pub all_answered : PlainList → List Event → List Answered
all_answered s [] = []
all_answered s (e ∷ es) = answered s e ∷ all_answered (next s e) es

-- These are the answers to these steps in a legal run of the plain list, of which there is no other.
pub record AreLegal (t : Terms) (steps : List Request) (answers : List Answered) : Type 0 where
  pub events : List Event
  pub of_steps : requests events ≡ steps
  pub legal : Legal t empty events
  pub told : answers ≡ all_answered empty events
