use Rattle.std.proofs.Common.{◌≡◌, ℕ, drop, get_or, length, map, sym, ap, ◌∙◌, arith, rules}
use Rattle.replay.specs.TaskStates.{threads_line, threads_pair, threads_task, parts_line, parts_pair, parts_task}
use Rattle.replay.specs.Lines.{Line}
use Rattle.replay.proofs.Lists.{all-moved, grown, moved-next, next-there}
use Rattle.replay.proofs.start_barrier.Starter.start_all.Goals as goal

pub start-requires-clause-pair : goal.start-requires-clause-pair
start-requires-clause-pair g c κs within =
    let here : length c.loop-parts.all_threads.items ≡ c.len-k.result = search rules in
    let rest = c.next.new.self.rest.items in
    let n = next-there c.args.links.now _ (parts_pair c.in-Some.parts) (map parts_pair rest)
    (sym c.loop-parts.invariant.2 ∙ ap (λ ss. map parts_pair ss) c.in-Some.ensures.steps.0) in
    sym (n.1 c.index-links-k.result) ∙ ap (λ (k : ℕ). get_or c.args.links.now k c.index-links-k.result) here ∙ sym c.index-links-k.is

pub bounds-links-k : goal.bounds-links-k
bounds-links-k g c =
    let here : length c.loop-parts.all_threads.items ≡ c.len-k.result = search rules in
    let n = next-there c.args.links.now _ (parts_pair c.in-Some.parts) (map parts_pair c.next.new.self.rest.items)
    (sym c.loop-parts.invariant.2 ∙ ap (λ ss. map parts_pair ss) c.in-Some.ensures.steps.0) in
    let inside = n.0 in omega (arith, here, inside)

pub push_reserved-requires : goal.push_reserved-requires
push_reserved-requires g c =
    let less = ap length c.in-Some.ensures.steps.0 in
    let sum = c.loop-parts.invariant.6 in
    let room = c.loop-parts.invariant.7 in omega (arith, less, sum, room)

pub loop-parts-preserved : goal.loop-parts-preserved
loop-parts-preserved g c =
    let parts = c.in-Some.parts in
    let threads = c.in_ok-threads.threads in
    let rest = c.next.new.self.rest.items in
    let taken = c.in-Some.ensures.steps.0 in
    let pushed = c.push_reserved.ensures.items in
    let n = next-there c.args.links.now _ (parts_pair parts) (map parts_pair rest) (sym c.loop-parts.invariant.2 ∙ ap (λ ss. map parts_pair ss) taken) in
    let task = c.in_ok-threads.ensures.threads.0 in
    let line = c.in_ok-threads.ensures.line in (
      tt,
      tt,
      sym n.2 ∙ ap (λ (k : ℕ). drop k c.args.links.now) (sym (grown _ _ _ pushed)),
      moved-next threads_line parts_line _ _ threads parts _ _ _ c.loop-parts.invariant.3 taken pushed line,
      moved-next threads_pair parts_pair _ _ threads parts _ _ _ c.loop-parts.invariant.4 taken pushed (ap (λ (l : Line). l.pair) line),
      moved-next threads_task parts_task _ _ threads parts _ _ _ c.loop-parts.invariant.5 taken pushed task,
      (let more = grown _ _ _ pushed in let less = ap length taken in let sum = c.loop-parts.invariant.6 in omega (arith, more, less, sum)),
      (let capacity = c.push_reserved.ensures.capacity in let room = c.loop-parts.invariant.7 in omega (arith, capacity, room)),
    )

pub returns-clause-lines : goal.returns-clause-lines
returns-clause-lines g c = all-moved threads_line parts_line _ _ _ c.loop-parts.invariant.3 (search rules)

pub returns-clause-pairs : goal.returns-clause-pairs
returns-clause-pairs g c = all-moved threads_pair parts_pair _ _ _ c.loop-parts.invariant.4 (search rules)

pub returns-clause-tasks : goal.returns-clause-tasks
returns-clause-tasks g c = all-moved threads_task parts_task _ _ _ c.loop-parts.invariant.5 (search rules)
