use Rattle.std.proofs.Common.{◌≡◌, length, ap, arith, rules}
use Rattle.std.proofs.lemmas.List.{length-map}
use Rattle.replay.specs.TaskStates.{parts_task}
use Rattle.replay.proofs.setup.prepare.Goals as goal

pub invariant_of-prepared-clause-few : goal.invariant_of-prepared-clause-few
invariant_of-prepared-clause-few g c =
    let same = ap length c.in_ok-links.ensures.tasks in
    let many = length-map c.in_ok-links.field-0.all_parts.items parts_task in
    let few = c.requires.0 in (c.requires.1, omega (arith, same, many, few))

pub invariant_of-prepared-clause-enough : goal.invariant_of-prepared-clause-enough
invariant_of-prepared-clause-enough g c =
    let same = ap length c.in_ok-links.ensures.tasks in
    let many = length-map c.in_ok-links.field-0.all_parts.items parts_task in
    let captures : c.len.result ≡ length c.args.interface.captures.items = search rules in
    let tasks : c.len-2.result ≡ length c.args.interface.tasks.items = search rules in
    let room = c.in_ok-room.ensures in record {
      none = room.none;
      sources = omega (arith, captures, room.sources);
      ends = omega (arith, same, many, tasks, room.ends);
      all_threads = omega (arith, same, many, tasks, room.all_threads);
      reports = omega (arith, same, many, tasks, room.reports);
    }
