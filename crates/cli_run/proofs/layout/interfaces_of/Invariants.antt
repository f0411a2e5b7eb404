use Rattle.std.specs.Iterator.Adapters.{zip_first, zip_second}
use Rattle.std.specs.Slice.Iter.{iter_rest}
use Rattle.std.specs.Vec.Iter.{into_iter_items}
use Rattle.cli_run.specs.Layout.{places_of, tasks_of}
use Rattle.cli_run.proofs.Laid.{AreLaying}
use Rattle.cli_run.proofs.layout.interfaces_of.Given as goal

-- the tasks of the lines before are laid out, and these lines, programs and sinks are left
abbrev pub invariant-loop-line : goal.invariant-loop-line
invariant-loop-line g l =
    (goal.iterator-loop-line g).can_next l.line-iterator × (goal.iterator-loop-line g).is_finite l.line-iterator
    × AreLaying (places_of l.fn.lines) (tasks_of l.fn.lines l.fn.programs.items l.fn.sinks.items) l.fn.captures.items l.interfaces.items
    (iter_rest (zip_first (zip_first l.line-iterator))) (into_iter_items (zip_second (zip_first l.line-iterator))) (into_iter_items (zip_second l.line-iterator))
