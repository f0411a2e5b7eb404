-- The two ends as contracts see them, and what a call leaves.
use Rattle.std.specs.Prelude.{◌≡◌, ℕ, Bool, List, [], ◌∷◌, ◌++◌}
use Rattle.atomic_table.specs.Seated.{TableId}
use Rattle.bpfvm.specs.declared.insn.Insn.{Insn}
use Rattle.listener.specs.declared.answer.Counts.{Counts}
use Rattle.listener.specs.declared.message.Message.{Message}
use Rattle.listener.specs.PlainList.{PlainList, empty, run, stored, Legal}
use Rattle.handover.specs.declared.calls.Feed.{Feed}
use Rattle.handover.specs.declared.calls.EndStep.{EndStep}
use Rattle.handover.specs.declared.calls.WordStep.{WordStep}
use Rattle.handover.specs.declared.calls.Take.{Take}
use Rattle.handover.specs.declared.view.Profile.{Profile}
use Rattle.handover.specs.History.{events}
use Rattle.handover.specs.Own.{own, received_in, matched_in, dropped_in}
use Rattle.handover.specs.Rule.{terms_of}
use Rattle.handover.specs.Steps.{call_steps, FlushAnswers}

-- A feeder: its pair, its filter, its calls with their answers, the steps of its seat, the steps of both ends that it has seen,
-- and its store.
pub record Feeding : Type 0 where
  pub pair : TableId
  pub program : List Insn
  pub snap : ℕ
  pub profile : Profile
  pub feeds : List Feed
  pub steps : List WordStep
  pub seen : List EndStep
  pub store : List Message

abbrev pub feeding : TableId → List Insn → ℕ → Profile → List Feed → List WordStep → List EndStep → List Message → Feeding
feeding pair program snap profile feeds steps seen store =
    record { pair = pair; program = program; snap = snap; profile = profile; feeds = feeds; steps = steps; seen = seen; store = store }

-- A feeder that has ended.
pub record FeedingEnded : Type 0 where
  pub pair : TableId
  pub profile : Profile
  pub feeds : List Feed
  pub steps : List WordStep
  pub seen : List EndStep
  pub store : List Message

abbrev pub feeding_ended : TableId → Profile → List Feed → List WordStep → List EndStep → List Message → FeedingEnded
feeding_ended pair profile feeds steps seen store =
    record { pair = pair; profile = profile; feeds = feeds; steps = steps; seen = seen; store = store }

-- A drain, before and after its close: its pair, its reads with their answers, the steps of its seat, and the steps
-- of both ends that it has seen.
pub record Draining : Type 0 where
  pub pair : TableId
  pub profile : Profile
  pub takes : List Take
  pub steps : List WordStep
  pub seen : List EndStep

abbrev pub draining : TableId → Profile → List Take → List WordStep → List EndStep → Draining
draining pair profile takes steps seen = record { pair = pair; profile = profile; takes = takes; steps = steps; seen = seen }

-- The lists of a pair: the calls of both ends with their answers, and the steps of both.
pub record PairLists : Type 0 where
  pub pair : TableId
  pub profile : Profile
  pub feeds : List Feed
  pub feeder_steps : List WordStep
  pub takes : List Take
  pub drain_steps : List WordStep

abbrev pub pair_lists : TableId → Profile → List Feed → List WordStep → List Take → List WordStep → PairLists
pair_lists pair profile feeds feeder_steps takes drain_steps =
    record { pair = pair; profile = profile; feeds = feeds; feeder_steps = feeder_steps; takes = takes; drain_steps = drain_steps }

-- a call of a feeder leaves its pair and its filter as they are
pub record IsSameFeeder (old new : Feeding) : Type 0 where
  pub pair : new.pair ≡ old.pair
  pub program : new.program ≡ old.program
  pub snap : new.snap ≡ old.snap
  pub profile : new.profile ≡ old.profile

pub record IsSameDrain (old new : Draining) : Type 0 where
  pub pair : new.pair ≡ old.pair
  pub profile : new.profile ≡ old.profile

-- the plain list that the feeder's own calls make
abbrev pub own_list : List Feed → PlainList
own_list fs = run empty (events (own fs))

-- Before settling: the feeder's answers are right in the run of its own calls, and its store is that run's.
pub record HasOwnRun (f : Feeding) : Type 0 where
  pub legal : Legal (terms_of f.profile) empty (events (own f.feeds))
  pub store : f.store ≡ stored (own_list f.feeds)

-- these counts are the list's
pub record AreCountsOf (counts : Counts) (s : PlainList) : Type 0 where
  pub all_received : counts.received ≡ s.received
  pub all_matched : counts.matched ≡ s.matched
  pub all_dropped : counts.dropped ≡ s.dropped

-- the counts of these calls
pub record AreCountsOfCalls (counts : Counts) (fs : List Feed) : Type 0 where
  pub all_received : counts.received ≡ received_in fs
  pub all_matched : counts.matched ≡ matched_in fs
  pub all_dropped : counts.dropped ≡ dropped_in fs

-- A flush that answered `full`: the list of calls grew by it, and the steps by its own.
pub record Flushed (full : Bool) (old new : Feeding) : Type 0 where
  pub call : Feed
  pub answer : FlushAnswers full call
  pub feeds : new.feeds ≡ old.feeds ++ call ∷ []
  pub steps : new.steps ≡ old.steps ++ call_steps old.profile.mode old.store call
