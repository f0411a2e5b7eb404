use Rattle.std.proofs.Common.{◌≡◌, ◌∷◌, ◌++◌, map, length, refl, sym, ap, ◌∙◌, subst, arith, rules}
use Rattle.std.proofs.lemmas.List.{length-map}
use Rattle.replay.specs.TaskStates.{threads_pair, threads_task}
use Rattle.replay.specs.Lines.{EndedLine}
use Rattle.replay.specs.Replayed.{IsServed}
use Rattle.replay.specs.RunsEnded.{past_pair}
use Rattle.replay.proofs.Lists.{all-moved, completed, completes-next, grown, moved}
use Rattle.replay.proofs.Served.{ended-missing, ended-timely, next-ended, next-paired, served}
use Rattle.replay.proofs.reporting.report_tasks.Goals as goal

pub unreachable-requires : goal.unreachable-requires
unreachable-requires g c =
    let none : length c.loop-threads.links.rest.items ≡ 0 = search rules in
    let here = ap length c.in-Some.ensures.steps.0 in
    let same = ap length c.loop-threads.invariant.2 in
    let many = length-map c.loop-threads.threads-iterator.rest.items threads_pair in omega (arith, none, here, same, many)

pub unreachable-requires-in_default-next : goal.unreachable-requires-in_default-next
unreachable-requires-in_default-next g c =
    let none : length c.loop-threads.ends.rest.items ≡ 0 = search rules in
    let (playlist, timely, fed) = c.loop-threads.invariant.3 in ended-missing playlist _ _ c.in-Some.threads _ fed c.in-Some.ensures.steps.0 none

pub report_task-requires-clause-pair : goal.report_task-requires-clause-pair
report_task-requires-clause-pair g c =
    let (playlist, timely, fed) = c.loop-threads.invariant.3 in
    let n = next-ended playlist _ c.in-Some-next-2.ending _ _ c.in-Some.threads _ fed c.in-Some-next-2.ensures.items c.in-Some.ensures.steps.0 in
    let p = next-paired _ _ c.in-Some.threads _ _ c.in-Some-next.link c.loop-threads.invariant.2 c.in-Some.ensures.steps.0 c.in-Some-next.ensures.items in
    (ap (λ (l : EndedLine). l.pair) n.0 ∙ p.0, p.0)

pub report_task-requires-clause-profile : goal.report_task-requires-clause-profile
report_task-requires-clause-profile g c =
    let (playlist, timely, fed) = c.loop-threads.invariant.3 in
    let n = next-ended playlist _ c.in-Some-next-2.ending _ _ c.in-Some.threads _ fed c.in-Some-next-2.ensures.items c.in-Some.ensures.steps.0 in
    ap (λ (l : EndedLine). l.profile) n.0

pub report_task-requires-clause-ring : goal.report_task-requires-clause-ring
report_task-requires-clause-ring g c =
    let (playlist, timely, fed) = c.loop-threads.invariant.3 in
    let n = next-ended playlist _ c.in-Some-next-2.ending _ _ c.in-Some.threads _ fed c.in-Some-next-2.ensures.items c.in-Some.ensures.steps.0 in
    ap (λ (l : EndedLine). l.ring) n.0

pub report_task-requires-clause-timely : goal.report_task-requires-clause-timely
report_task-requires-clause-timely g c =
    let (playlist, timely, fed) = c.loop-threads.invariant.3 in
    let n = next-ended playlist _ c.in-Some-next-2.ending _ _ c.in-Some.threads _ fed c.in-Some-next-2.ensures.items c.in-Some.ensures.steps.0 in
    ended-timely playlist c.in-Some-next-2.ending c.in-Some.threads timely n.0

pub push_reserved-requires : goal.push_reserved-requires
push_reserved-requires g c =
    let less = ap length c.in-Some.ensures.steps.0 in
    let sum = c.loop-threads.invariant.6 in
    let room = c.loop-threads.invariant.7 in omega (arith, less, sum, room)

pub loop-threads-preserved : goal.loop-threads-preserved
loop-threads-preserved g c =
    let (playlist, timely, fed) = c.loop-threads.invariant.3 in
    let n = next-ended playlist _ c.in-Some-next-2.ending _ _ c.in-Some.threads _ fed c.in-Some-next-2.ensures.items c.in-Some.ensures.steps.0 in (
      tt,
      tt,
      (next-paired _ _ c.in-Some.threads _ _ c.in-Some-next.link c.loop-threads.invariant.2 c.in-Some.ensures.steps.0 c.in-Some-next.ensures.items).1,
      (playlist, timely, n.1),
      (λ playlist timely all.
          let (here, so_far) = c.loop-threads.invariant.4 playlist timely all in
          let n = next-ended playlist _ c.in-Some-next-2.ending _ _ c.in-Some.threads _ here c.in-Some-next-2.ensures.items c.in-Some.ensures.steps.0 in
          let past = c.in_ok-report.ensures.past in (
            n.1,
            completes-next (IsServed g.W.Sink.taken g.W.Sink.failures playlist) _ _ _ (threads_task c.in-Some.threads) _ _ _ so_far
                (ap (λ cs. map threads_task cs) c.in-Some.ensures.steps.0) c.push_reserved.ensures.items
                (served g.W.Sink.taken g.W.Sink.failures playlist (threads_task c.in-Some.threads) c.in-Some-next-2.ending.feed.feeds c.in_ok-report.report.past.takes c.in_ok-report.report
                (ap (λ (l : EndedLine). l.asks) n.0) (past.1, refl)
                (past.2 ∙ ap (λ (l : EndedLine). l.profile) n.0)
                c.in_ok-report.ensures.report),
          )),
      (let all = map threads_pair c.args.all_threads.items in
          let rest = c.next.new.self.rest.items in
          let before : map past_pair c.loop-threads.reports.items ++ map threads_pair (c.in-Some.threads ∷ rest) ≡ all =
          subst (λ cs. map past_pair c.loop-threads.reports.items ++ map threads_pair cs ≡ all) c.in-Some.ensures.steps.0 c.loop-threads.invariant.5 in
          subst (λ rs. map past_pair rs ++ map threads_pair rest ≡ all) (sym c.push_reserved.ensures.items)
          (moved past_pair threads_pair c.loop-threads.reports.items c.in_ok-report.report c.in-Some.threads rest all before c.in_ok-report.ensures.past.0)),
      (let more = grown _ _ _ c.push_reserved.ensures.items in
          let less = ap length c.in-Some.ensures.steps.0 in
          let sum = c.loop-threads.invariant.6 in omega (arith, more, less, sum)),
      (let capacity = c.push_reserved.ensures.capacity in let room = c.loop-threads.invariant.7 in omega (arith, capacity, room)),
    )

pub returns-clause-pairs : goal.returns-clause-pairs
returns-clause-pairs g c = all-moved past_pair threads_pair _ _ _ c.loop-threads.invariant.5 (search rules)

pub returns-clause-served : goal.returns-clause-served
returns-clause-served g c = λ playlist timely all.
    completed (IsServed g.W.Sink.taken g.W.Sink.failures playlist) _ _ _ (c.loop-threads.invariant.4 playlist timely all).1
    (length-map c.loop-threads.threads-iterator.rest.items threads_task ∙ (let none : length c.loop-threads.threads-iterator.rest.items ≡ 0 = search rules in none))
