use Rattle.std.proofs.Common.{length, ap, arith, rules}
use Rattle.replay.specs.TaskStates.{parts_line, parts_pair, parts_task}
use Rattle.replay.specs.Lines.{line_of}
use Rattle.replay.proofs.Lists.{all-moved-itself, both-next, grown, image-next, moved-itself-next}
use Rattle.replay.proofs.setup.make_all.Goals as goal

pub push_reserved-requires : goal.push_reserved-requires
push_reserved-requires g c =
    let less = ap length c.in-Some.ensures.steps.0 in
    let sum = c.loop-task.invariant.5 in
    let same = c.loop-task.invariant.6 in
    let room = c.loop-task.invariant.8 in omega (arith, less, sum, same, room)

pub push_reserved-requires-in-loop-task : goal.push_reserved-requires-in-loop-task
push_reserved-requires-in-loop-task g c =
    let less = ap length c.in-Some.ensures.steps.0 in
    let sum = c.loop-task.invariant.5 in
    let same = c.loop-task.invariant.7 in
    let room = c.loop-task.invariant.9 in omega (arith, less, sum, same, room)

pub push_reserved-requires-in-loop-task-2 : goal.push_reserved-requires-in-loop-task-2
push_reserved-requires-in-loop-task-2 g c =
    let less = ap length c.in-Some.ensures.steps.0 in
    let sum = c.loop-task.invariant.5 in
    let room = c.loop-task.invariant.10 in omega (arith, less, sum, room)

pub loop-task-preserved : goal.loop-task-preserved
loop-task-preserved g c =
    let link = c.in_ok-link.field-0.link in
    let slot = c.in_ok-link.field-0.slot in
    let parts = c.in_ok-link.field-0.parts in
    let made = c.in_ok-link.ensures in
    let taken = c.in-Some.ensures.steps.0 in
    let links = c.push_reserved.ensures.items in
    let slots = c.push_reserved-in-loop-task.ensures.items in
    let all_parts = c.push_reserved-in-loop-task-2.ensures.items in
    let same-links = c.loop-task.invariant.6 in
    let same-slots = c.loop-task.invariant.7 in
    let more-links = grown _ _ link links in
    let more-slots = grown _ _ slot slots in
    let more-all_parts = grown _ _ parts all_parts in (
      tt,
      tt,
      moved-itself-next parts_task _ _ parts c.in-Some.task _ _ _ c.loop-task.invariant.2 taken all_parts made.task,
      image-next parts_pair _ _ parts _ _ link c.loop-task.invariant.3 all_parts links made.pair,
      both-next line_of parts_line _ _ slot _ _ parts c.loop-task.invariant.4 slots all_parts made.line,
      (let less = ap length taken in let sum = c.loop-task.invariant.5 in omega (arith, more-all_parts, less, sum)),
      omega (arith, more-links, more-all_parts, same-links),
      omega (arith, more-slots, more-all_parts, same-slots),
      (let capacity = c.push_reserved.ensures.capacity in let room = c.loop-task.invariant.8 in omega (arith, capacity, room)),
      (let capacity = c.push_reserved-in-loop-task.ensures.capacity in let room = c.loop-task.invariant.9 in omega (arith, capacity, room)),
      (let capacity = c.push_reserved-in-loop-task-2.ensures.capacity in let room = c.loop-task.invariant.10 in omega (arith, capacity, room)),
    )

pub returns-clause-tasks : goal.returns-clause-tasks
returns-clause-tasks g c = all-moved-itself parts_task _ _ _ c.loop-task.invariant.2 (search rules)
