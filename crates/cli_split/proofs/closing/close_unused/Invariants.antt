use Rattle.std.proofs.Common.{◌≡◌, ◌+◌, [], ℕ, List, All, Some, length, true}
use Rattle.cli_split.proofs.closing.close_unused.Given as goal

-- the files that are left took nothing
abbrev pub invariant-loop-part : goal.invariant-loop-part
invariant-loop-part g l =
    (goal.iterator-loop-part g).can_next l.part-iterator × (goal.iterator-loop-part g).is_finite l.part-iterator
    × (g.F.FileStore.place l.files ≡ g.F.FileStore.place l.fn.files)
    × (g.F.FileStore.known ≡ true → (p : List ℕ) → g.F.FileStore.text l.files p ≡ g.F.FileStore.text l.fn.files p)
    × (g.F.FileStore.known ≡ true → g.F.FileStore.pending l.fn.files + length l.part-iterator.rest.items ≡ g.F.FileStore.pending l.files + length l.fn.parts.items)
    × (g.F.FileStore.known ≡ true → All (λ part. g.F.Output.Sink.taken part.sink ≡ Some []) l.part-iterator.rest.items)
    × (g.F.FileStore.denied l.files ≡ g.F.FileStore.denied l.fn.files)
