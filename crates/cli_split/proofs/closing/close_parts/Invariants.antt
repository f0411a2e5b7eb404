use Rattle.std.proofs.Common.{◌≡◌, ◌+◌, ◌≤◌, length, true, vec_capacity}
use Rattle.cli_split.proofs.Closings.{Follows}
use Rattle.cli_split.proofs.closing.close_parts.Given as goal

-- the parts that were closed, and those that are left
abbrev pub invariant-loop-part : goal.invariant-loop-part
invariant-loop-part g l =
    (goal.iterator-loop-part g).can_next l.part-iterator × (goal.iterator-loop-part g).is_finite l.part-iterator
    × (g.F.FileStore.place l.files ≡ g.F.FileStore.place l.fn.files)
    × (g.F.FileStore.known ≡ true → g.F.FileStore.pending l.fn.files ≡ g.F.FileStore.pending l.files + length l.closed.items)
    × (length l.closed.items + length l.part-iterator.rest.items ≡ length l.fn.parts.items)
    × (length l.fn.parts.items ≤ vec_capacity l.closed)
    × (g.F.FileStore.known ≡ true → g.F.FileStore.failed l.fn.files ≡ true → g.F.FileStore.failed l.files ≡ true)
    × (g.F.FileStore.known ≡ true → Follows g.F.Output.Sink.taken g.F.Output.Sink.name g.F.Output.Sink.failures (g.F.FileStore.failed l.files) (g.F.FileStore.text l.fn.files) (g.F.FileStore.text l.files) l.fn.parts.items l.closed.items l.part-iterator.rest.items)
