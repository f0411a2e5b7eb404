use Rattle.std.proofs.Common.{◌≡◌, ◌+◌, ◌≤◌, ◌++◌, All, List, length, map, vec_capacity}
use Rattle.listener.specs.Messages.{Arrival}
use Rattle.replay.specs.TaskStates.{threads_line, threads_pair, threads_task}
use Rattle.replay.specs.Lines.{ended_all, ended_of, fed_all}
use Rattle.replay.specs.Replayed.{IsServed}
use Rattle.replay.specs.Writing.{IsTimely}
use Rattle.replay.specs.RunsEnded.{past_pair}
use Rattle.replay.proofs.Lists.{Completes}
use Rattle.replay.proofs.reporting.report_tasks.Given as goal

-- the tasks that were settled, and those that are left beside their links and their ended feeders
abbrev pub invariant-loop-threads : goal.invariant-loop-threads
invariant-loop-threads g l =
    let rest = l.threads-iterator.rest.items in
    (goal.iterator-loop-threads g).can_next l.threads-iterator × (goal.iterator-loop-threads g).is_finite l.threads-iterator
    × (map threads_pair rest ≡ l.links.rest.items)
    × ((playlist : List Arrival) × All (λ (a : Arrival). IsTimely a.packet.nanos) playlist × (map ended_of l.ends.rest.items ≡ ended_all (map (fed_all playlist) (map threads_line rest))))
    × ((playlist : List Arrival) → All (λ (a : Arrival). IsTimely a.packet.nanos) playlist → map ended_of l.fn.ends.items ≡ ended_all (map (fed_all playlist) (map threads_line l.fn.all_threads.items))
    → (map ended_of l.ends.rest.items ≡ ended_all (map (fed_all playlist) (map threads_line rest)))
    × Completes (IsServed g.W.Sink.taken g.W.Sink.failures playlist) (map threads_task l.fn.all_threads.items) l.reports.items (map threads_task rest))
    × (map past_pair l.reports.items ++ map threads_pair rest ≡ map threads_pair l.fn.all_threads.items)
    × (length l.reports.items + length rest ≡ length l.fn.all_threads.items)
    × (length l.fn.all_threads.items ≤ vec_capacity l.reports)
