-- A task that was settled, and what it was asked for.
use Rattle.std.proofs.Common.{◌≡◌, ℕ, Bool, true, false, List, [], ◌∷◌, All, length, map, refl, ap, sym, ◌∙◌, arith, subst, Option}
use Rattle.atomic_table.specs.Seated.{TableId}
use Rattle.listener.specs.LookingBack.{all_accepted, count, is_arrival}
use Rattle.listener.specs.Messages.{Arrival}
use Rattle.listener.specs.declared.answer.Fed.TheVariants.{Passed, Stored, Held, Rotated, Dropped, Closed}
use Rattle.handover.specs.Asks.{asks}
use Rattle.handover.specs.History.{by_kind, finds, kind}
use Rattle.handover.specs.Own.{received_in}
use Rattle.handover.specs.Rule.{profile_of}
use Rattle.handover.specs.declared.calls.Feed.{Feed}
use Rattle.handover.specs.declared.calls.Feed.TheVariants as call
use Rattle.handover.specs.declared.calls.Take.{Take}
use Rattle.replay.specs.TaskStates.{threads_line, threads_pair}
use Rattle.replay.specs.Lines.{EndedLine, ended_all, ended_line, ended_of, fed_all}
use Rattle.replay.specs.Playing.{asked, asking_of}
use Rattle.replay.specs.Replayed.{IsServed}
use Rattle.replay.specs.Reports.{IsReported}
use Rattle.replay.specs.declared.states.task.TaskThreads.{TaskThreads}
use Rattle.replay.specs.declared.states.feeder.EndedFeeder.{EndedFeeder}
use Rattle.replay_types.specs.declared.report.ListenerReport.{ListenerReport}
use Rattle.replay_types.specs.declared.task.Task.{Task}
use Rattle.replay.specs.Writing.{IsTimely}
use Rattle.replay.proofs.Asked.{count-asked}
use Rattle.replay.proofs.Timely.{asked-timely}

flush-by : (full : Bool) (b : Bool) → by_kind (kind (call.Flush full)) b b true ≡ false → b ≡ false
flush-by true b e = e
flush-by false b e = e

-- where no call found the pair closed, each arrival that was asked for was received
all-arrived : (fs : List Feed) → finds fs ≡ false → received_in fs ≡ count is_arrival (asks fs)
all-arrived [] open' = refl
all-arrived (call.Arrive m Passed ∷ fs) open' = let r = all-arrived fs open' in omega (arith, r)
all-arrived (call.Arrive m Stored ∷ fs) open' = let r = all-arrived fs open' in omega (arith, r)
all-arrived (call.Arrive m Held ∷ fs) open' = let r = all-arrived fs open' in omega (arith, r)
all-arrived (call.Arrive m Rotated ∷ fs) open' = let r = all-arrived fs open' in omega (arith, r)
all-arrived (call.Arrive m Dropped ∷ fs) open' = let r = all-arrived fs open' in omega (arith, r)
all-arrived (call.Arrive m Closed ∷ fs) open' = absurd cc
all-arrived (call.Flush full ∷ fs) open' = let still : finds fs ≡ false = flush-by full (finds fs) open' in let r = all-arrived fs still in omega (arith, r)
all-arrived (call.FlushClosed ∷ fs) open' = absurd cc

-- a task that was settled was served with the playlist that its feeder was asked for
pub served : {W : Type 0} (taken : W → Option (List ℕ)) (failures : W → ℕ) (playlist : List Arrival) (task : Task W) (feeds : List Feed) (takes : List Take)
    (r : ListenerReport W) → asks feeds ≡ asked (asking_of task) playlist → (r.past.feeds ≡ feeds) × (r.past.takes ≡ takes)
    → r.past.profile ≡ profile_of task.capacity task.mode
    → IsReported taken failures task feeds takes r → IsServed taken failures playlist task r
served taken failures playlist task feeds takes r fed past profile reported = record {
  profile = profile;
  asked_for = ap asks past.0 ∙ fed;
  reported = subst (λ (fs : List Feed). IsReported taken failures task fs r.past.takes r) (sym past.0)
      (subst (λ (ts : List Take). IsReported taken failures task feeds ts r) (sym past.1) reported);
  whole = λ clean.
      let all = reported.clean clean in let got = all-arrived feeds all.0 in let many = ap (count is_arrival) fed in
      let one = count-asked (asking_of task) 0 playlist in let so = reported.all_received.0 in
      let written = all.1 in let balance = reported.balance in
      (omega (arith, got, many, one, so), omega (arith, written, balance));
}

-- while threads of a task are left, so is an ended feeder
pub ended-missing : {W : Type 0} (playlist : List Arrival) (ends : List EndedFeeder) (all_threads : List (TaskThreads W)) (threads : TaskThreads W) (all_threads' : List (TaskThreads W))
    → map ended_of ends ≡ ended_all (map (fed_all playlist) (map threads_line all_threads)) → all_threads ≡ threads ∷ all_threads' → length ends ≡ 0 → ⊥
ended-missing {W} playlist [] all_threads threads all_threads' same f none =
    let left : [] ≡ ended_all (map (fed_all playlist) (map threads_line (threads ∷ all_threads'))) = same ∙ ap (λ (cs : List (TaskThreads W)). ended_all (map (fed_all playlist) (map threads_line cs))) f in
    absurd cc
ended-missing {W} playlist (ending ∷ ends) all_threads threads all_threads' same f none = absurd (omega (arith, none))

-- the ended feeders, of which the first is taken, and the tasks that they are of
pub next-ended : {W : Type 0} (playlist : List Arrival) (ends : List EndedFeeder) (ending : EndedFeeder) (ends' : List EndedFeeder) (all_threads : List (TaskThreads W)) (threads : TaskThreads W)
    (all_threads' : List (TaskThreads W)) → map ended_of ends ≡ ended_all (map (fed_all playlist) (map threads_line all_threads)) → ends ≡ ending ∷ ends' → all_threads ≡ threads ∷ all_threads'
    → (ended_of ending ≡ ended_line (fed_all playlist (threads_line threads))) × (map ended_of ends' ≡ ended_all (map (fed_all playlist) (map threads_line all_threads')))
next-ended {W} playlist ends ending ends' all_threads threads all_threads' same e f =
    let there : map ended_of (ending ∷ ends') ≡ ended_all (map (fed_all playlist) (map threads_line (threads ∷ all_threads'))) =
    sym (ap (λ (es : List EndedFeeder). map ended_of es) e) ∙ same ∙ ap (λ (cs : List (TaskThreads W)). ended_all (map (fed_all playlist) (map threads_line cs))) f in
    (cc, cc)

-- what a feeder's messages are, by what it was asked for
pub ended-timely : {W : Type 0} (playlist : List Arrival) (ending : EndedFeeder) (threads : TaskThreads W) → All (λ (a : Arrival). IsTimely a.packet.nanos) playlist
    → ended_of ending ≡ ended_line (fed_all playlist (threads_line threads)) → All (λ m. IsTimely m.nanos) (all_accepted (asks ending.feed.feeds))
ended-timely playlist ending threads timely e =
    subst (λ rs. All (λ m. IsTimely m.nanos) (all_accepted rs)) (sym (ap (λ (l : EndedLine). l.asks) e)) (asked-timely (asking_of threads.task.value) playlist timely)

-- the links of pairs, of which the first is taken, and the tasks that they are of
pub next-paired : {W : Type 0} (all_threads all_threads' : List (TaskThreads W)) (threads : TaskThreads W) (links links' : List TableId) (link : TableId)
    → map threads_pair all_threads ≡ links → all_threads ≡ threads ∷ all_threads' → links ≡ link ∷ links' → (threads_pair threads ≡ link) × (map threads_pair all_threads' ≡ links')
next-paired {W} all_threads all_threads' threads links links' link same e f =
    let there : map threads_pair (threads ∷ all_threads') ≡ link ∷ links' = sym (ap (λ (cs : List (TaskThreads W)). map threads_pair cs) e) ∙ same ∙ f in (cc, cc)
