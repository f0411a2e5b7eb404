-- What a report says of a listener's own steps.
use Rattle.std.specs.Prelude.{◌≡◌, List, ◌++◌, map}
use Rattle.listener.specs.declared.message.Message.{Message}
use Rattle.listener.specs.Laws.{joined}
use Rattle.listener.specs.LookingBack.{kept, dropped, received, matched}
use Rattle.listener.specs.PlainList.{Terms, terms, PlainList, Request, answers, run, empty}
use Rattle.listener.specs.PlainList as P
use Rattle.tap_steps.specs.declared.report.Report.{Report}
use Rattle.tap_steps.specs.declared.filters.Spec.{Spec}

-- what was read, batch by batch
abbrev pub read_in : Report → List (List Message)
read_in report = map (λ batch. batch.items) report.batches.items

-- what the buffers hold: the hold, and then the store
abbrev pub held_in : Report → List Message
held_in report = report.held.items

-- What was read followed by what the buffers hold is what looking back over the listener's steps keeps: the accepted
-- packets before its close, cut, in order, each once, without those that found no room. The counts are exact.
pub record LooksBack (t : Terms) (steps : List Request) (report : Report) : Type 0 where
  pub whole : joined (read_in report) ++ held_in report ≡ kept t steps
  pub received : report.received ≡ received steps
  pub matched : report.matched ≡ matched steps
  pub dropped : report.dropped ≡ dropped t steps

-- the plain list to which these steps lead, with the right answers, from the empty one
abbrev pub run_of : Terms → List Request → PlainList
run_of t steps = run empty (answers t empty steps)

-- The batches, one by one, and what the buffers hold are those of the plain list's run, and so are the counts.
pub record RunsAsPlain (t : Terms) (steps : List Request) (report : Report) : Type 0 where
  pub batches : read_in report ≡ P.batches (answers t empty steps)
  pub pending : held_in report ≡ (run_of t steps).pending
  pub received : report.received ≡ (run_of t steps).received
  pub matched : report.matched ≡ (run_of t steps).matched
  pub dropped : report.dropped ≡ (run_of t steps).dropped

-- a report of these steps of a listener
pub record Reports (t : Terms) (steps : List Request) (report : Report) : Type 0 where
  pub looks_back : LooksBack t steps report
  pub runs : RunsAsPlain t steps report

-- the terms of the plain list of a listener that is wanted
abbrev pub terms_of : Spec → Terms
terms_of spec = terms spec.capacity spec.mode
