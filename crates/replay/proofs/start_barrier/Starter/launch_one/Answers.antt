use Rattle.std.proofs.Common.{map, refl, ◌∙◌, arith}
use Rattle.replay.specs.TaskStates.{parts_line}
use Rattle.replay.specs.Lines.{line_of}
use Rattle.replay.proofs.Beside.{pairs-of-lines}
use Rattle.replay.proofs.Fresh.{as-long, fresh-lines}
use Rattle.replay.proofs.Lists.{empty}
use Rattle.replay.proofs.start_barrier.Starter.launch_one.Goals as goal

pub invariant_of-play-clause-pairs : goal.invariant_of-play-clause-pairs
invariant_of-play-clause-pairs g c = pairs-of-lines c.args.prepared.slots.items c.args.prepared.all_parts.items c.args.prepared.lines ∙ c.requires.pairs

pub invariant_of-play-clause-fresh : goal.invariant_of-play-clause-fresh
invariant_of-play-clause-fresh g c = (refl, fresh-lines (map line_of c.args.prepared.slots.items) c.args.prepared.all_parts.items c.args.prepared.lines)

pub invariant_of-play-clause-ends_fit : goal.invariant_of-play-clause-ends_fit
invariant_of-play-clause-ends_fit g c =
    let many = as-long line_of parts_line c.args.prepared.slots.items c.args.prepared.all_parts.items c.args.prepared.lines in
    let ends = c.args.prepared.enough.ends in (c.args.prepared.enough.none.1, omega (arith, many, ends))

pub start_all-requires-clause-room : goal.start_all-requires-clause-room
start_all-requires-clause-room g c κs within = (empty _ c.args.prepared.enough.none.2, c.args.prepared.enough.all_threads)
